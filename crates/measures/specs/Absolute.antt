-- The measure A: weighted absolute distances are added, and the weighted median is preferred. Assumes nothing.
use Rattle.std.specs.Prelude.{ℕ, ◌*◌, Bool, cond, List, ℤ, filter, int_le, nat_le}
use Rattle.reading.specs.declared.scale.Reading.{Reading}
use Rattle.isotonic.specs.Costs.{total}
use Rattle.measures.specs.Values.{distance, smallest, values, whole_weight}

-- what one reading adds: its weight times |value - level|
abbrev pub absolute_cost : Reading → ℤ → ℕ
absolute_cost r v = r.weight * distance r.value v

abbrev pub absolute_departs : List Reading → ℤ → ℕ
absolute_departs rs v = total absolute_cost rs v

-- the weight of a reading whose value is up to v, and else 0
abbrev pub counted : Reading → ℤ → ℕ
counted r v = cond (int_le r.value v) r.weight 0

-- the weight of all values up to v
abbrev pub weight_up_to : List Reading → ℤ → ℕ
weight_up_to rs v = total counted rs v

-- twice that weight is at least the whole weight
abbrev pub reaches_half : List Reading → ℤ → Bool
reaches_half rs v = nat_le (whole_weight rs) (2 * weight_up_to rs v)

-- the smallest value in the list at which that is so
abbrev pub absolute_prefers : List Reading → ℤ
absolute_prefers rs = smallest (filter (reaches_half rs) (values rs))
