-- The values of readings on the scale: their smallest and their largest, and what raising values does to these.
use Rattle.std.specs.Prelude.{◌≡◌, ℕ, ◌<◌, ◌≤◌, List, [], ◌∷◌, length, ℤ, pos, negsuc, ◌≤ℤ◌, slice_index_or}
use Rattle.std.proofs.Common.{arith}
use Rattle.std.proofs.lemmas.List.{length-map}
use Rattle.std.proofs.lemmas.List.Elements.{All-cons, All-head, All-map, All-nil, All-tail, length_all_zip}
use Rattle.std.proofs.lemmas.Int.{ints}
use Rattle.std.specs.List.{All}
use Rattle.reading.specs.declared.scale.Reading.{Reading}
use Rattle.reading.specs.Scale.{Level, Scaled}
use Rattle.isotonic.specs.Laws.{NowhereLower}
use Rattle.isotonic.specs.Scales.{level_bounds, value_level}
use Rattle.measures.specs.Values.{largest, smallest, values}
use Rattle.measures.specs.Extremes.{largest_bounds, largest_holds, smallest_bounds, smallest_holds}
use Rattle.isotonic.specs.Places.{at, placed, top}

pub some_values : (rs : List Reading) → 0 < length rs → 0 < length (values rs)
some_values rs some = omega (arith, length-map rs (λ (r : Reading). r.value))

pub values_levels : (rs : List Reading) → Scaled rs → All Level (values rs)
values_levels rs all = All-map Level (λ r. r.value) rs (λ k d h. value_level (slice_index_or rs k d) (all k d h))

-- no value is off the scale of levels
pub values_below : (rs : List Reading) → Scaled rs → All (λ x. x ≤ℤ pos 30000) (values rs)
values_below rs all k d h = (level_bounds _ (values_levels rs all k d h)).1

pub values_above : (rs : List Reading) → Scaled rs → All (λ x. negsuc 29999 ≤ℤ x) (values rs)
values_above rs all k d h = (level_bounds _ (values_levels rs all k d h)).0

-- the smallest and the largest value, by their places
pub record Ends (rs : List Reading) : Type 0 where
  pub low : ℕ
  pub high : ℕ
  pub ordered : low ≤ high
  pub within : high ≤ top
  pub lowest : smallest (values rs) ≡ at low
  pub highest : largest (values rs) ≡ at high

module _ (rs : List Reading) (all : Scaled rs) (some : 0 < length rs) where
  lowest_level : Level (smallest (values rs))
  lowest_level = smallest_holds Level (values rs) (some_values rs some) (values_levels rs all)

  highest_level : Level (largest (values rs))
  highest_level = largest_holds Level (values rs) (some_values rs some) (values_levels rs all)

  -- the two ends, however they were found, are levels
  pub span_levels : (low high : ℤ) → low ≡ smallest (values rs) → high ≡ largest (values rs) → Level low × Level high
  span_levels low high e f = (rw e lowest_level, rw f highest_level)

  in_order : smallest (values rs) ≤ℤ largest (values rs)
  in_order = smallest_holds (λ x. x ≤ℤ largest (values rs)) (values rs) (some_values rs some) (largest_bounds (values rs))

  pub ends_of : Ends rs
  ends_of =
      let a = placed (smallest (values rs)) lowest_level in
      let b = placed (largest (values rs)) highest_level in
      record { low = a.0; high = b.0; ordered = omega (arith, ints, in_order, a.2, b.2); within = b.1; lowest = a.2; highest = b.2 }

module _ (z : ℤ) where
  raised_above : (xs ys : List Reading) → NowhereLower xs ys → All (λ x. z ≤ℤ x) (values xs) → All (λ y. z ≤ℤ y) (values ys)
  raised_above [] [] lower all = All-nil (λ y. z ≤ℤ y)
  raised_above [] (y ∷ ys) lower all = absurd lower
  raised_above (x ∷ xs) [] lower all = absurd lower
  raised_above (x ∷ xs) (y ∷ ys) lower all =
      let one = All-head (λ v. z ≤ℤ v) x.value (values xs) all in
      All-cons (λ v. z ≤ℤ v) y.value (values ys) (omega (arith, ints, one, lower.0.0)) (raised_above xs ys lower.1 (All-tail (λ v. z ≤ℤ v) x.value (values xs) all))

  raised_below : (xs ys : List Reading) → NowhereLower xs ys → All (λ y. y ≤ℤ z) (values ys) → All (λ x. x ≤ℤ z) (values xs)
  raised_below [] [] lower all = All-nil (λ x. x ≤ℤ z)
  raised_below [] (y ∷ ys) lower all = absurd lower
  raised_below (x ∷ xs) [] lower all = absurd lower
  raised_below (x ∷ xs) (y ∷ ys) lower all =
      let one = All-head (λ v. v ≤ℤ z) y.value (values ys) all in
      All-cons (λ v. v ≤ℤ z) x.value (values xs) (omega (arith, ints, one, lower.0.0)) (raised_below xs ys lower.1 (All-tail (λ v. v ≤ℤ z) y.value (values ys) all))

module _ (xs ys : List Reading) (some : 0 < length xs) (lower : NowhereLower xs ys) where
  -- both ends of raised values are no lower
  pub raised_smallest : smallest (values xs) ≤ℤ smallest (values ys)
  raised_smallest =
      let low = smallest (values xs) in
      smallest_holds (λ y. low ≤ℤ y) (values ys) (some_values ys (omega (arith, length_all_zip _ xs ys lower))) (raised_above low xs ys lower (smallest_bounds (values xs)))

  pub raised_largest : largest (values xs) ≤ℤ largest (values ys)
  raised_largest =
      let high = largest (values ys) in
      largest_holds (λ x. x ≤ℤ high) (values xs) (some_values xs some) (raised_below high xs ys lower (largest_bounds (values ys)))
