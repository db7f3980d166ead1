-- The scale as bounds.
use Rattle.std.proofs.Common.{◌≤◌, ℤ, pos, negsuc, ◌≤ℤ◌, arith}
use Rattle.std.proofs.lemmas.Int.{ints}
use Rattle.std.proofs.lemmas.Bool.Decides.{nat_tests}
use Rattle.reading.specs.declared.scale.Reading.{Reading}
use Rattle.reading.specs.Scale.{Level, OnScale}

-- a level lies on the scale of levels
pub level_bounds : (v : ℤ) → Level v → (negsuc 29999 ≤ℤ v) × (v ≤ℤ pos 30000)
level_bounds v h = grind (arith, ints)

-- what lies on that scale is a level
pub level_from : (v : ℤ) → negsuc 29999 ≤ℤ v → v ≤ℤ pos 30000 → Level v
level_from v low high = grind (arith, ints)

pub value_level : (r : Reading) → OnScale r → Level r.value
value_level r h = grind (arith, nat_tests)

pub weight_bounds : (r : Reading) → OnScale r → (1 ≤ r.weight) × (r.weight ≤ 1000)
weight_bounds r h = grind (arith, nat_tests)
