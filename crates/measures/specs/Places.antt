-- How far readings on the scale lie from levels.
use Rattle.std.proofs.Common.{arith}
use Rattle.std.specs.Prelude.{ℤ, ◌≤◌}
use Rattle.std.proofs.lemmas.Int.{ints}
use Rattle.reading.specs.declared.scale.Reading.{Reading}
use Rattle.reading.specs.Scale.{Level, OnScale}
use Rattle.isotonic.specs.Places.{top}
use Rattle.isotonic.specs.Scales.{level_bounds, value_level}
use Rattle.measures.specs.Values.{distance}

-- a value on the scale lies within the scale of any level
pub distance_within : (r : Reading) (v : ℤ) → OnScale r → Level v → distance r.value v ≤ top
distance_within r v scaled level =
    let x = level_bounds r.value (value_level r scaled) in
    let y = level_bounds v level in
    omega (arith, ints)
