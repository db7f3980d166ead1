-- The whole weight of a list of readings.
use Rattle.std.specs.Prelude.{◌<◌, ◌≤◌, List, [], ◌∷◌, length}
use Rattle.std.proofs.Common.{arith}
use Rattle.std.proofs.lemmas.List.Elements.{All-head}
use Rattle.std.proofs.lemmas.List.Sums.{sum_by-cons}
use Rattle.reading.specs.declared.scale.Reading.{Reading}
use Rattle.reading.specs.Scale.{OnScale, Scaled}
use Rattle.isotonic.specs.Scales.{weight_bounds}
use Rattle.measures.specs.Values.{whole_weight}

-- it is not 0 where there is a reading
pub whole_positive : (rs : List Reading) → Scaled rs → 0 < length rs → 0 < whole_weight rs
whole_positive [] all some = absurd (omega arith)
whole_positive (r ∷ rs) all some = omega (arith, weight_bounds r (All-head OnScale r rs all), sum_by-cons {X = Reading})

pub weight_small : (r : Reading) → OnScale r → r.weight ≤ 1000
weight_small r scaled = (weight_bounds r scaled).1
