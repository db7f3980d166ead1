-- What the readings of a sample weigh, and the sum of their weighted places: both are small.
use Rattle.std.proofs.Common.{◌≡◌, ℕ, ◌+◌, ◌-◌, ◌*◌, ◌/◌, ◌<◌, ◌≤◌, List, length, get_or, take, ap, sym, refl, arith}
use Rattle.std.proofs.lemmas.List.Sums.{sum_by_more_le}
use Rattle.reading.specs.declared.scale.Reading.{Reading}
use Rattle.reading.specs.Scale.{Scaled, limit}
use Rattle.isotonic.proofs.Sums.{sum_within}
use Rattle.isotonic.specs.Places.{at}
use Rattle.measures.specs.Means.{places_within, quotient_preferred}
use Rattle.measures.specs.Squared.{place_of, squared_prefers, weighted_places}
use Rattle.measures.specs.Values.{whole_weight}
use Rattle.measures.specs.Weights.{weight_small}

pub whole_few : (rs : List Reading) → Scaled rs → length rs ≤ limit → whole_weight rs ≤ 1_024_000
whole_few rs all few = omega (arith, sum_within (λ r. r.weight) 1000 weight_small rs all)

pub places_few : (rs : List Reading) → Scaled rs → length rs ≤ limit → weighted_places rs ≤ 61_440_000_000
places_few rs all few = omega (arith, whole_few rs all few, places_within rs all)

-- so are they on the way, with the next reading
module _ (xs rs : List Reading) (i : ℕ) (d : Reading) (same : xs ≡ rs) (all : Scaled rs) (few : length rs ≤ limit) (here : i < length xs) where
  pub whole_next : whole_weight (take i xs) + (get_or xs i d).weight ≤ 1_024_000
  whole_next = omega (arith, sum_by_more_le (λ r. r.weight) xs i d here, ap whole_weight same, whole_few rs all few)

  pub places_next : weighted_places (take i xs) + (get_or xs i d).weight * place_of (get_or xs i d) ≤ 61_440_000_000
  places_next = omega (arith, sum_by_more_le (λ r. r.weight * place_of r) xs i d here, ap weighted_places same, places_few rs all few)

-- the quotient in whole numbers is what is preferred, by its place
module _ (rs : List Reading) (all : Scaled rs) (some : 0 < length rs) where
  pub quotient_within : (2 * weighted_places rs + whole_weight rs - 1) / (2 * whole_weight rs) ≤ 60000
  quotient_within = (quotient_preferred rs all some _ _ _ refl refl refl).0

  pub prefers_quotient : squared_prefers rs ≡ at ((2 * weighted_places rs + whole_weight rs - 1) / (2 * whole_weight rs))
  prefers_quotient = sym (quotient_preferred rs all some _ _ _ refl refl refl).1
