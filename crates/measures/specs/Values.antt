-- The values and weights of readings, and whole numbers below and next to a quotient. Assumes nothing.
use Rattle.std.specs.Prelude.{ℕ, ◌*◌, cond, List, [], ◌∷◌, map, ℤ, pos, ◌+ℤ◌, ◌-ℤ◌, fold, sum_by, nat_le, unsigned_abs}
use Rattle.std.specs.Int.Signed.{shr_z}
use Rattle.std.specs.Int.{int_max, int_min, int_rem_euclid}
use Rattle.reading.specs.declared.scale.Reading.{Reading}

-- how far a value lies from a level
abbrev pub distance : ℤ → ℤ → ℕ
distance x v = unsigned_abs (x -ℤ v)

abbrev pub values : List Reading → List ℤ
values rs = map (λ r. r.value) rs

abbrev pub whole_weight : List Reading → ℕ
whole_weight rs = sum_by (λ r. r.weight) rs

-- the smallest of a list with at least one number
abbrev pub smallest : List ℤ → ℤ
smallest [] = pos 0
smallest (x ∷ xs) = fold int_min x xs

-- the largest of a list with at least one number
abbrev pub largest : List ℤ → ℤ
largest [] = pos 0
largest (x ∷ xs) = fold int_max x xs

-- the largest whole number not above z / n
abbrev pub floored : ℤ → ℕ → ℤ
floored z n = shr_z z n

-- what z is above n times that number
abbrev pub left_over : ℤ → ℕ → ℕ
left_over z n = unsigned_abs (int_rem_euclid z (pos n))

-- the whole number nearest to z / n; a half goes to the lower one
abbrev pub nearest : ℤ → ℕ → ℤ
nearest z n = cond (nat_le (2 * left_over z n) n) (floored z n) (floored z n +ℤ pos 1)
