-- Levels counted from the lowest, as the places 0 to 60,000.
use Rattle.std.proofs.Common.{arith}
use Rattle.std.specs.Prelude.{◌≡◌, ℕ, ◌≤◌, ℤ, pos, ◌+ℤ◌, ◌-ℤ◌, ◌≤ℤ◌, unsigned_abs}
use Rattle.std.proofs.lemmas.Int.{ints}
use Rattle.reading.specs.Scale.{Level}
use Rattle.isotonic.specs.Laws.{LiesBetween}
use Rattle.isotonic.specs.Scales.{level_bounds, level_from}

-- the last place
abbrev pub top : ℕ
top = 60000

-- the level at a place
abbrev pub at : ℕ → ℤ
at n = pos n -ℤ pos 30000

-- every level has its place
pub placed : (v : ℤ) → Level v → (n : ℕ) × (n ≤ top) × (v ≡ at n)
placed v h =
    let b = level_bounds v h in
    (unsigned_abs (v +ℤ pos 30000), omega (arith, ints), omega (arith, ints))

pub at_level : (n : ℕ) → n ≤ top → Level (at n)
at_level n h = grind (arith, ints)

pub at_le : (m n : ℕ) → m ≤ n → at m ≤ℤ at n
at_le m n h = omega (arith, ints)

-- a number between two levels is a level
pub between_levels : (p u v : ℤ) → Level p → Level v → LiesBetween p u v → Level u
between_levels p u v lp lv lies =
    let x = level_bounds p lp in
    let y = level_bounds v lv in
    level_from u (grind (arith, ints)) (grind (arith, ints))
