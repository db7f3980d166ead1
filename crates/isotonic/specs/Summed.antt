-- Departures that add up a cost of each reading: their laws, wherever that cost bends upwards along the levels.
use Rattle.std.specs.Prelude.{◌≡◌, ℕ, suc, ◌+◌, ◌<◌, ◌≤◌, List, [], ◌∷◌, ◌++◌, ℤ, refl}
use Rattle.std.proofs.Common.{inl, inr, add_assoc, add_comm, zero-add, arith}
use Rattle.std.proofs.lemmas.List.{length-append}
use Rattle.std.proofs.lemmas.List.Elements.{All-append, All-head, All-tail, length_all_zip}
use Rattle.std.proofs.lemmas.Int.{ints}
use Rattle.std.proofs.lemmas.List.Sums.{sum_by-append, sum_by-cons}
use Rattle.reading.specs.declared.scale.Reading.{Reading}
use Rattle.reading.specs.Scale.{OnScale, Scaled}
use Rattle.isotonic.specs.Laws.{CombinesInAnyOrder, EmptyDepartsByZero, JoinedDeparturesCombine, JoinedPrefersBetween, LiesBetween, NearerDepartsNoMore, NowhereLower, OneDepartsWithin, RaisedPrefersNoLower}
use Rattle.isotonic.specs.Smallest.{PrefersSmallestOfLeast}
use Rattle.isotonic.specs.Costs.{CostBends, CostIsWithin, CostShifts, PrefersFirst, placed_cost, total}
use Rattle.isotonic.specs.Convex.{Bends, First, first_least, nearer_above, nearer_below, no_earlier, not_after_both, not_before_both}
use Rattle.isotonic.specs.Places.{at, at_le, at_level, between_levels, placed, top}

-- adding is a way to combine
pub adding_combines : CombinesInAnyOrder (λ x y. x + y)
adding_combines =
    record {
      associative = add_assoc;
      commutative = add_comm;
      zero_adds_nothing = zero-add;
      monotone = λ x y z h. omega arith;
      at_most_sum = λ x y. omega arith;
    }

module _ (cost : Reading → ℤ → ℕ) where
  pub sum_empty : EmptyDepartsByZero (total cost)
  sum_empty v level = refl

  pub sum_joined : JoinedDeparturesCombine (total cost) (λ x y. x + y)
  sum_joined xs ys v all_x all_y level = sum_by-append (λ r. cost r v) xs ys

  pub sum_bounded : CostIsWithin cost → OneDepartsWithin (total cost)
  sum_bounded small r v scaled level = omega (arith, small r v scaled level)

  pub total_bends : CostBends cost → (rs : List Reading) → Scaled rs → Bends (placed_cost cost rs) top
  total_bends bends [] all n h = omega arith
  total_bends bends (r ∷ rs) all n h =
      let rest = total_bends bends rs (All-tail OnScale r rs all) n h in
      let one = bends r (All-head OnScale r rs all) n h in
      omega (arith, sum_by-cons {X = Reading})

  total_shifts :
      CostShifts cost → (xs ys : List Reading) → Scaled xs → Scaled ys → NowhereLower xs ys → (n : ℕ) → n < top
      → placed_cost cost ys (suc n) + placed_cost cost xs n ≤ placed_cost cost ys n + placed_cost cost xs (suc n)
  total_shifts shifts [] [] all_x all_y lower n h = omega arith
  total_shifts shifts [] (y ∷ ys) all_x all_y lower n h = absurd lower
  total_shifts shifts (x ∷ xs) [] all_x all_y lower n h = absurd lower
  total_shifts shifts (x ∷ xs) (y ∷ ys) all_x all_y lower n h =
      let rest = total_shifts shifts xs ys (All-tail OnScale x xs all_x) (All-tail OnScale y ys all_y) lower.1 n h in
      let one = shifts x y (All-head OnScale x xs all_x) (All-head OnScale y ys all_y) lower.0.0 lower.0.1 n h in
      omega (arith, sum_by-cons {X = Reading})

module _ (cost : Reading → ℤ → ℕ) (pref : List Reading → ℤ) (bends : CostBends cost) (first : PrefersFirst cost pref) where
  -- the law on nearer levels, by places
  nearer_placed :
      (rs : List Reading) (p a b : ℕ) (u v : ℤ) → Scaled rs → First (placed_cost cost rs) top p → b ≤ top → u ≡ at a → v ≡ at b
      → LiesBetween (at p) u v → total cost rs u ≤ total cost rs v
  nearer_placed rs p a b u v all best high eu ev (inl h) =
      rw (eu, ev) (nearer_above (placed_cost cost rs) top p (total_bends cost bends rs all) best a b (omega (arith, ints)) (omega (arith, ints)) high)
  nearer_placed rs p a b u v all best high eu ev (inr h) =
      rw (eu, ev) (nearer_below (placed_cost cost rs) top p (total_bends cost bends rs all) best a b (omega (arith, ints)) (omega (arith, ints)))

  pub sum_nearer : NearerDepartsNoMore (total cost) pref
  sum_nearer xs all some =
      let b = first xs all some in
      let here = at_level b.0 b.2.within in
      rw b.1 (
        here,
        λ u v level lies.
            let at_v = placed v level in
            let at_u = placed u (between_levels (at b.0) u v here level lies) in
            nearer_placed xs b.0 at_u.0 at_v.0 u v all b.2 at_v.1 at_u.2 at_v.2 lies,
      )

  pub sum_between : JoinedPrefersBetween pref
  sum_between xs ys all_x all_y some_x some_y =
      let x = first xs all_x some_x in
      let y = first ys all_y some_y in
      let j = first (xs ++ ys) (All-append OnScale xs ys all_x all_y) (omega (arith, length-append xs ys)) in
      let sum : (n : ℕ) → placed_cost cost (xs ++ ys) n ≡ placed_cost cost xs n + placed_cost cost ys n = λ n. sum_by-append (λ r. cost r (at n)) xs ys in
      let bx = total_bends cost bends xs all_x in
      let by = total_bends cost bends ys all_y in (
        λ a b. not_before_both _ _ _ top x.0 y.0 j.0 sum bx by x.2 y.2 j.2 (omega (arith, ints, x.1, j.1, a)) (omega (arith, ints, y.1, j.1, b)),
        λ a b. not_after_both _ _ _ top x.0 y.0 j.0 sum bx by x.2 y.2 j.2 (omega (arith, ints, x.1, j.1, a)) (omega (arith, ints, y.1, j.1, b)),
      )

  pub sum_raised : CostShifts cost → RaisedPrefersNoLower pref
  sum_raised shifts xs ys all_x all_y some lower =
      let x = first xs all_x some in
      let y = first ys all_y (omega (arith, length_all_zip _ xs ys lower)) in
      rw (x.1, y.1) (at_le x.0 y.0 (no_earlier _ _ top x.0 y.0 x.2 y.2 (total_shifts cost shifts xs ys all_x all_y lower)))

  -- what is preferred is the smallest level of least cost
  pub sum_smallest : PrefersSmallestOfLeast (total cost) pref
  sum_smallest xs all some v level =
      let b = first xs all some in
      let there = placed v level in
      let least = first_least (placed_cost cost xs) top b.0 (total_bends cost bends xs all) b.2 there.0 there.1 in
      rw (b.1, there.2) (least.0, λ same. at_le b.0 there.0 (least.1 same))
