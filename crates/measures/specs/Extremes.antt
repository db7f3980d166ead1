-- The smallest and the largest of a list: they bound it, and what holds of each number in it holds of them.
use Rattle.std.specs.Prelude.{◌≡◌, ◌<◌, ◌⊎◌, List, [], ◌∷◌, ◌++◌, length, ℤ, ◌≤ℤ◌, fold, refl}
use Rattle.std.proofs.Common.{get_or, inl, inr, ⊎_elim, ap, arith}
use Rattle.std.proofs.lemmas.List.{length-append}
use Rattle.std.proofs.lemmas.List.Elements.{All-append, All-cons, All-contains, All-contains_itself, All-head, All-nil, All-tail, Contains-append_left, Contains-append_right, Contains-get_or}
use Rattle.std.proofs.lemmas.Int.{clamps, fold-int_max_bounds, fold-int_max_reached, fold-int_min_bounds, fold-int_min_reached, ints}
use Rattle.std.specs.Int.{int_max, int_min}
use Rattle.std.specs.List.{Contains, All}
use Rattle.measures.specs.Claims.{ExtremesAreReached}
use Rattle.measures.specs.Values.{largest, smallest}

pub smallest_bounds : (xs : List ℤ) → All (λ x. smallest xs ≤ℤ x) xs
smallest_bounds [] = All-nil _
smallest_bounds (x ∷ xs) = let h = fold-int_min_bounds x xs _ refl in All-cons (λ y. fold int_min x xs ≤ℤ y) x xs h.0 h.1

pub largest_bounds : (xs : List ℤ) → All (λ x. x ≤ℤ largest xs) xs
largest_bounds [] = All-nil _
largest_bounds (x ∷ xs) = let h = fold-int_max_bounds x xs _ refl in All-cons (λ y. y ≤ℤ fold int_max x xs) x xs h.0 h.1

pub smallest_holds : (P : ℤ → Type 0) (xs : List ℤ) → 0 < length xs → All P xs → P (smallest xs)
smallest_holds P [] some all = absurd (omega arith)
smallest_holds P (x ∷ xs) some all =
    ⊎_elim (λ e. rw e (All-head P x xs all)) (All-contains P xs _ (All-tail P x xs all)) (fold-int_min_reached x xs _ refl)

pub largest_holds : (P : ℤ → Type 0) (xs : List ℤ) → 0 < length xs → All P xs → P (largest xs)
largest_holds P [] some all = absurd (omega arith)
largest_holds P (x ∷ xs) some all =
    ⊎_elim (λ e. rw e (All-head P x xs all)) (All-contains P xs _ (All-tail P x xs all)) (fold-int_max_reached x xs _ refl)

pub extremes_reached : ExtremesAreReached
extremes_reached xs some =
    (smallest_holds (Contains xs) xs some (All-contains_itself xs), smallest_bounds xs, largest_holds (Contains xs) xs some (All-contains_itself xs), largest_bounds xs)

-- starting from what none of them passes changes nothing
pub smallest_within : (z : ℤ) (xs : List ℤ) → 0 < length xs → All (λ x. x ≤ℤ z) xs → fold int_min z xs ≡ smallest xs
smallest_within z [] some all = absurd (omega arith)
smallest_within z (x ∷ xs) some all = ap (λ a. fold int_min a xs) (omega (arith, ints, clamps, All-head (λ y. y ≤ℤ z) x xs all))

pub largest_within : (z : ℤ) (xs : List ℤ) → 0 < length xs → All (λ x. z ≤ℤ x) xs → fold int_max z xs ≡ largest xs
largest_within z [] some all = absurd (omega arith)
largest_within z (x ∷ xs) some all = ap (λ a. fold int_max a xs) (omega (arith, ints, clamps, All-head (λ y. z ≤ℤ y) x xs all))

-- ---- of two lists joined

module _ {X : Type 0} (P : X → Type 0) where
  all_left : (xs ys : List X) → All P (xs ++ ys) → All P xs
  all_left xs ys all k d h = All-contains P (xs ++ ys) (get_or xs k d) all (Contains-append_left xs ys (get_or xs k d) (Contains-get_or xs k d h))

  all_right : (xs ys : List X) → All P (xs ++ ys) → All P ys
  all_right xs ys all k d h = All-contains P (xs ++ ys) (get_or ys k d) all (Contains-append_right xs ys (get_or ys k d) (Contains-get_or ys k d h))

module _ (xs ys : List ℤ) (some_x : 0 < length xs) (some_y : 0 < length ys) where
  both_some : 0 < length (xs ++ ys)
  both_some = omega (arith, length-append xs ys)

  -- the ends of the whole bound those of the parts
  part_bounds :
      (zs : List ℤ) → 0 < length zs → All (λ x. smallest (xs ++ ys) ≤ℤ x) zs → All (λ x. x ≤ℤ largest (xs ++ ys)) zs
      → (smallest (xs ++ ys) ≤ℤ smallest zs) × (largest zs ≤ℤ largest (xs ++ ys))
  part_bounds zs some low high = (smallest_holds (λ x. smallest (xs ++ ys) ≤ℤ x) zs some low, largest_holds (λ x. x ≤ℤ largest (xs ++ ys)) zs some high)

  pub left_bounds : (smallest (xs ++ ys) ≤ℤ smallest xs) × (largest xs ≤ℤ largest (xs ++ ys))
  left_bounds =
      part_bounds xs some_x
      (all_left (λ x. smallest (xs ++ ys) ≤ℤ x) xs ys (smallest_bounds (xs ++ ys)))
      (all_left (λ x. x ≤ℤ largest (xs ++ ys)) xs ys (largest_bounds (xs ++ ys)))

  pub right_bounds : (smallest (xs ++ ys) ≤ℤ smallest ys) × (largest ys ≤ℤ largest (xs ++ ys))
  right_bounds =
      part_bounds ys some_y
      (all_right (λ x. smallest (xs ++ ys) ≤ℤ x) xs ys (smallest_bounds (xs ++ ys)))
      (all_right (λ x. x ≤ℤ largest (xs ++ ys)) xs ys (largest_bounds (xs ++ ys)))

  -- and each of them is an end of a part
  pub smallest_from : (smallest xs ≤ℤ smallest (xs ++ ys)) ⊎ (smallest ys ≤ℤ smallest (xs ++ ys))
  smallest_from =
      let P : ℤ → Type 0 = λ z. (smallest xs ≤ℤ z) ⊎ (smallest ys ≤ℤ z) in
      smallest_holds P (xs ++ ys) both_some
      (All-append P xs ys (λ k d h. inl (smallest_bounds xs k d h)) (λ k d h. inr (smallest_bounds ys k d h)))

  pub largest_from : (largest (xs ++ ys) ≤ℤ largest xs) ⊎ (largest (xs ++ ys) ≤ℤ largest ys)
  largest_from =
      let P : ℤ → Type 0 = λ z. (z ≤ℤ largest xs) ⊎ (z ≤ℤ largest ys) in
      largest_holds P (xs ++ ys) both_some
      (All-append P xs ys (λ k d h. inl (largest_bounds xs k d h)) (λ k d h. inr (largest_bounds ys k d h)))
