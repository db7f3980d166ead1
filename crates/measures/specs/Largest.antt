-- The measure L: the largest distance counts, weights are not read, and the middle of the values is preferred. Assumes nothing.
use Rattle.std.specs.Prelude.{ℕ, max, List, [], ◌∷◌, ℤ, ◌+ℤ◌}
use Rattle.reading.specs.declared.scale.Reading.{Reading}
use Rattle.measures.specs.Values.{distance, floored, largest, smallest, values}

-- the largest |value - level|
abbrev pub largest_departs : List Reading → ℤ → ℕ
largest_departs [] v = 0
largest_departs (r ∷ rs) v = max (distance r.value v) (largest_departs rs v)

-- the largest whole number not above half the sum of the smallest and the largest value
abbrev pub largest_prefers : List Reading → ℤ
largest_prefers rs = floored (smallest (values rs) +ℤ largest (values rs)) 2
