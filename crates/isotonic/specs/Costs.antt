-- Measures that add up a cost of each reading: what they owe of that cost. Assumes nothing.
use Rattle.std.specs.Prelude.{◌≡◌, ℕ, suc, ◌+◌, ◌<◌, ◌≤◌, List, length, ℤ, ◌≤ℤ◌, sum_by}
use Rattle.reading.specs.declared.scale.Reading.{Reading}
use Rattle.reading.specs.Scale.{Level, OnScale, Scaled}
use Rattle.isotonic.specs.Bounds.{one_most}
use Rattle.isotonic.specs.Convex.{Bends, First}
use Rattle.isotonic.specs.Places.{at, top}

-- the sum of what each reading costs at a level
abbrev pub total : (Reading → ℤ → ℕ) → List Reading → ℤ → ℕ
total cost rs v = sum_by (λ r. cost r v) rs

-- the cost of a list, by places
abbrev pub placed_cost : (Reading → ℤ → ℕ) → List Reading → ℕ → ℕ
placed_cost cost rs n = total cost rs (at n)

-- a reading costs a bounded amount
abbrev pub CostIsWithin : (Reading → ℤ → ℕ) → Type 0
CostIsWithin cost = (r : Reading) (v : ℤ) → OnScale r → Level v → cost r v ≤ one_most

-- a cost bends upwards along the levels
abbrev pub CostBends : (Reading → ℤ → ℕ) → Type 0
CostBends cost = (r : Reading) → OnScale r → Bends (λ n. cost r (at n)) top

-- and a higher value has nowhere a larger change
abbrev pub CostShifts : (Reading → ℤ → ℕ) → Type 0
CostShifts cost =
    (r s : Reading) → OnScale r → OnScale s → r.value ≤ℤ s.value → r.weight ≡ s.weight → (n : ℕ) → n < top
    → cost s (at (suc n)) + cost r (at n) ≤ cost s (at n) + cost r (at (suc n))

-- what is preferred is the first level at which the total is least
abbrev pub PrefersFirst : (Reading → ℤ → ℕ) → (List Reading → ℤ) → Type 0
PrefersFirst cost pref =
    (rs : List Reading) → Scaled rs → 0 < length rs → (p : ℕ) × (pref rs ≡ at p) × First (placed_cost cost rs) top p
