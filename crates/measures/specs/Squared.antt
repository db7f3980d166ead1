-- The measure S: weighted squared distances are added, and the whole number nearest the weighted mean is preferred. Assumes nothing.
use Rattle.std.specs.Prelude.{ℕ, ◌*◌, List, [], ◌∷◌, ℤ, pos, ◌+ℤ◌, ◌*ℤ◌, sum_by, unsigned_abs}
use Rattle.reading.specs.declared.scale.Reading.{Reading}
use Rattle.isotonic.specs.Costs.{total}
use Rattle.measures.specs.Values.{distance, nearest, whole_weight}

-- what one reading adds: its weight times the square of value - level
abbrev pub squared_cost : Reading → ℤ → ℕ
squared_cost r v = r.weight * (distance r.value v * distance r.value v)

abbrev pub squared_departs : List Reading → ℤ → ℕ
squared_departs rs v = total squared_cost rs v

-- the sum of weight times value
abbrev pub weighted_sum : List Reading → ℤ
weighted_sum [] = pos 0
weighted_sum (r ∷ rs) = (pos r.weight *ℤ r.value) +ℤ weighted_sum rs

-- the whole number nearest the weighted mean; a half goes to the lower one
abbrev pub squared_prefers : List Reading → ℤ
squared_prefers rs = nearest (weighted_sum rs) (whole_weight rs)

-- for the code, which keeps above zero: a value counted from the lowest level on
abbrev pub place_of : Reading → ℕ
place_of r = unsigned_abs (r.value +ℤ pos 30000)

-- the sum of weight times value, with the values so counted
abbrev pub weighted_places : List Reading → ℕ
weighted_places rs = sum_by (λ r. r.weight * place_of r) rs
