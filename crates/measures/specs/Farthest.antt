-- The largest distance: how it combines, and that it is the distance of an end of the values.
use Rattle.std.specs.Prelude.{◌≡◌, ℕ, ◌+◌, ◌-◌, ◌<◌, ◌≤◌, max, List, [], ◌∷◌, ◌++◌, length, take, ℤ, ◌≤ℤ◌, slice_index_or, refl}
use Rattle.std.proofs.Common.{ap, arith}
use Rattle.std.proofs.lemmas.List.{take_more}
use Rattle.std.proofs.lemmas.List.Elements.{All-cons, All-head, All-nil, All-tail}
use Rattle.std.proofs.lemmas.Int.{ints}
use Rattle.std.specs.List.{All}
use Rattle.reading.specs.declared.scale.Reading.{Reading}
use Rattle.reading.specs.Scale.{Scaled}
use Rattle.isotonic.specs.Laws.{CombinesInAnyOrder, EmptyDepartsByZero, JoinedDeparturesCombine, OneDepartsWithin}
use Rattle.measures.specs.Largest.{largest_departs}
use Rattle.measures.specs.Values.{distance, largest, smallest, values}
use Rattle.measures.specs.Extremes.{largest_bounds, largest_holds, smallest_bounds, smallest_holds}
use Rattle.isotonic.specs.Places.{at}
use Rattle.measures.specs.Places.{distance_within}
use Rattle.measures.specs.Spans.{Ends, some_values}

-- taking the larger is a way to combine
pub larger_combines : CombinesInAnyOrder (λ x y. max x y)
larger_combines =
    record {
      associative = λ x y z. omega arith;
      commutative = λ x y. omega arith;
      zero_adds_nothing = λ x. omega arith;
      monotone = λ x y z h. omega arith;
      at_most_sum = λ x y. omega arith;
    }

pub largest_empty : EmptyDepartsByZero largest_departs
largest_empty v level = refl

pub departs_joined : (xs ys : List Reading) (v : ℤ) → largest_departs (xs ++ ys) v ≡ max (largest_departs xs v) (largest_departs ys v)
departs_joined [] ys v = omega arith
departs_joined (x ∷ xs) ys v = omega (arith, departs_joined xs ys v)

-- one reading more
pub departs_more :
    (rs : List Reading) (i : ℕ) (d : Reading) (v : ℤ) → i < length rs
    → largest_departs (take (i + 1) rs) v ≡ max (largest_departs (take i rs) v) (distance (slice_index_or rs i d).value v)
departs_more rs i d v h =
    omega (arith, ap (λ qs. largest_departs qs v) (take_more rs i d h), departs_joined (take i rs) (slice_index_or rs i d ∷ []) v)

pub largest_joined : JoinedDeparturesCombine largest_departs (λ x y. max x y)
largest_joined xs ys v all_x all_y level = departs_joined xs ys v

pub largest_bounded : OneDepartsWithin largest_departs
largest_bounded r v scaled level = omega (arith, distance_within r v scaled level)

-- whatever bounds the largest distance bounds the distance of every value
departs_bounds : (rs : List Reading) (v : ℤ) (m : ℕ) → largest_departs rs v ≤ m → All (λ x. distance x v ≤ m) (values rs)
departs_bounds [] v m h = All-nil _
departs_bounds (r ∷ rs) v m h = All-cons (λ x. distance x v ≤ m) r.value (values rs) (omega arith) (departs_bounds rs v m (omega arith))

-- and whatever bounds the distance of every value bounds the largest
departs_least : (rs : List Reading) (v : ℤ) (m : ℕ) → All (λ x. distance x v ≤ m) (values rs) → largest_departs rs v ≤ m
departs_least [] v m all = omega arith
departs_least (r ∷ rs) v m all =
    omega (arith, All-head (λ x. distance x v ≤ m) r.value (values rs) all, departs_least rs v m (All-tail (λ x. distance x v ≤ m) r.value (values rs) all))

-- what two facts of each entry give
all_both :
    {X : Type 0} (P Q R : X → Type 0) (xs : List X) → ((x : X) → P x → Q x → R x) → All P xs → All Q xs → All R xs
all_both P Q R xs f ps qs k d h = f (slice_index_or xs k d) (ps k d h) (qs k d h)

between : (a b : ℕ) (x : ℤ) (n : ℕ) → at a ≤ℤ x → x ≤ℤ at b → distance x (at n) ≤ max (b - n) (n - a)
between a b x n low high = omega (arith, ints)

module _ (rs : List Reading) (all : Scaled rs) (some : 0 < length rs) where
  -- each value lies between the ends
  between_ends : (e : Ends rs) (n : ℕ) → All (λ x. distance x (at n) ≤ max (e.high - n) (n - e.low)) (values rs)
  between_ends e n =
      all_both (λ x. smallest (values rs) ≤ℤ x) (λ x. x ≤ℤ largest (values rs)) (λ x. distance x (at n) ≤ max (e.high - n) (n - e.low)) (values rs)
      (λ x low high. between e.low e.high x n (rw e.lowest at low) (rw e.highest at high))
      (smallest_bounds (values rs))
      (largest_bounds (values rs))

  -- so the largest distance is that of an end
  pub ends_depart : (e : Ends rs) (n : ℕ) → largest_departs rs (at n) ≡ max (e.high - n) (n - e.low)
  ends_depart e n =
      let d = largest_departs rs (at n) in
      let own = departs_bounds rs (at n) d (omega arith) in
      let low_end = smallest_holds (λ x. distance x (at n) ≤ d) (values rs) (some_values rs some) own in
      let high_end = largest_holds (λ x. distance x (at n) ≤ d) (values rs) (some_values rs some) own in
      let up_to = departs_least rs (at n) (max (e.high - n) (n - e.low)) (between_ends e n) in
      omega (arith, ints, low_end, high_end, up_to)
