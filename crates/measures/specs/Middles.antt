-- The middle of the values: the laws of what L prefers.
use Rattle.std.specs.Prelude.{◌≡◌, ℕ, ◌+◌, ◌-◌, ◌/◌, ◌<◌, ◌≤◌, max, List, ◌++◌, length, ℤ, pos, negsuc, ◌+ℤ◌, ◌≤ℤ◌, ◌<ℤ◌}
use Rattle.std.proofs.Common.{inl, inr, arith}
use Rattle.std.proofs.lemmas.List.{map-append}
use Rattle.std.proofs.lemmas.Int.{ints}
use Rattle.reading.specs.declared.scale.Reading.{Reading}
use Rattle.reading.specs.Scale.{Level, Scaled}
use Rattle.isotonic.specs.Laws.{JoinedPrefersBetween, LiesBetween, NearerDepartsNoMore, RaisedPrefersNoLower}
use Rattle.isotonic.specs.Smallest.{PrefersSmallestOfLeast}
use Rattle.measures.specs.Largest.{largest_departs, largest_prefers}
use Rattle.measures.specs.Values.{floored, largest, smallest, values}
use Rattle.measures.specs.Extremes.{largest_from, left_bounds, right_bounds, smallest_from}
use Rattle.isotonic.specs.Places.{at, at_le, at_level, between_levels, placed}
use Rattle.measures.specs.Spans.{Ends, ends_of, raised_largest, raised_smallest, some_values}
use Rattle.measures.specs.Farthest.{ends_depart}
use Rattle.measures.specs.Quotients.{floored_shifted}

-- nearer to the middle of a and b, the farther of them is no farther
nearer_middle :
    (a b u v : ℕ) → a ≤ b → LiesBetween (at ((a + b) / 2)) (at u) (at v) → max (b - u) (u - a) ≤ max (b - v) (v - a)
nearer_middle a b u v ordered (inl h) = omega (arith, ints)
nearer_middle a b u v ordered (inr h) = omega (arith, ints)

module _ (rs : List Reading) (all : Scaled rs) (some : 0 < length rs) where
  -- what is preferred is the place in the middle
  middle_place : (e : Ends rs) → largest_prefers rs ≡ at ((e.low + e.high) / 2)
  middle_place e =
      floored_shifted (smallest (values rs) +ℤ largest (values rs)) 2 30000 (e.low + e.high) (omega arith) (omega (arith, ints, e.lowest, e.highest))

pub largest_nearer : NearerDepartsNoMore largest_departs largest_prefers
largest_nearer xs all some =
    let e = ends_of xs all some in
    let p = (e.low + e.high) / 2 in
    let here : Level (at p) = at_level p (omega (arith, e.ordered, e.within)) in
    rw (middle_place xs all some e) (
      here,
      λ u v level lies.
          let at_v = placed v level in
          let at_u = placed u (between_levels (at p) u v here level lies) in
          placed_nearer xs all some e u v at_u.0 at_v.0 at_u.2 at_v.2 lies,
    )
  where
    placed_nearer :
        (xs : List Reading) → Scaled xs → 0 < length xs → (e : Ends xs) (u v : ℤ) (a b : ℕ) → u ≡ at a → v ≡ at b
        → LiesBetween (at ((e.low + e.high) / 2)) u v → largest_departs xs u ≤ largest_departs xs v
    placed_nearer xs all some e u v a b eu ev lies =
        let nearer = nearer_middle e.low e.high a b e.ordered (rw (eu, ev) at lies) in
        rw (eu, ev) (omega (arith, nearer, ends_depart xs all some e a, ends_depart xs all some e b))

-- higher ends have a middle no lower
floored_rises : (y z : ℤ) → y ≤ℤ z → floored y 2 ≤ℤ floored z 2
floored_rises (pos a) (pos b) h = omega (arith, ints)
floored_rises (pos a) (negsuc b) h = absurd (omega (arith, ints))
floored_rises (negsuc a) (pos b) h = omega (arith, ints)
floored_rises (negsuc a) (negsuc b) h = omega (arith, ints)

-- the middle of a list of values
abbrev middle : List ℤ → ℤ
middle zs = floored (smallest zs +ℤ largest zs) 2

module _ (xs ys : List ℤ) (some_x : 0 < length xs) (some_y : 0 < length ys) where
  middle_not_below : middle (xs ++ ys) <ℤ middle xs → middle (xs ++ ys) <ℤ middle ys → ⊥
  middle_not_below a b =
      let l = left_bounds xs ys some_x some_y in
      let r = right_bounds xs ys some_x some_y in
      let low = smallest_from xs ys some_x some_y in
      let x = floored_rises (smallest xs +ℤ largest xs) (smallest (xs ++ ys) +ℤ largest (xs ++ ys)) in
      let y = floored_rises (smallest ys +ℤ largest ys) (smallest (xs ++ ys) +ℤ largest (xs ++ ys)) in
      grind (arith, ints)

  middle_not_above : middle xs <ℤ middle (xs ++ ys) → middle ys <ℤ middle (xs ++ ys) → ⊥
  middle_not_above a b =
      let l = left_bounds xs ys some_x some_y in
      let r = right_bounds xs ys some_x some_y in
      let high = largest_from xs ys some_x some_y in
      let x = floored_rises (smallest (xs ++ ys) +ℤ largest (xs ++ ys)) (smallest xs +ℤ largest xs) in
      let y = floored_rises (smallest (xs ++ ys) +ℤ largest (xs ++ ys)) (smallest ys +ℤ largest ys) in
      grind (arith, ints)

pub largest_between : JoinedPrefersBetween largest_prefers
largest_between xs ys all_x all_y some_x some_y =
    let vx = some_values xs some_x in
    let vy = some_values ys some_y in
    rw (map-append (λ r. r.value) xs ys)
    (middle_not_below (values xs) (values ys) vx vy, middle_not_above (values xs) (values ys) vx vy)

pub largest_raised : RaisedPrefersNoLower largest_prefers
largest_raised xs ys all_x all_y some lower =
    let low = raised_smallest xs ys some lower in
    let high = raised_largest xs ys some lower in
    floored_rises (smallest (values xs) +ℤ largest (values xs)) (smallest (values ys) +ℤ largest (values ys)) (omega (arith, ints))

-- the middle is the first place at which the farther end is least far
middle_least :
    (a b n : ℕ) → a ≤ b
    → (max (b - (a + b) / 2) ((a + b) / 2 - a) ≤ max (b - n) (n - a)) × (max (b - n) (n - a) ≡ max (b - (a + b) / 2) ((a + b) / 2 - a) → (a + b) / 2 ≤ n)
middle_least a b n ordered = (omega arith, λ same. omega arith)

pub largest_smallest : PrefersSmallestOfLeast largest_departs largest_prefers
largest_smallest xs all some v level =
    let e = ends_of xs all some in
    let p = (e.low + e.high) / 2 in
    let there = placed v level in
    let n = there.0 in
    let least = middle_least e.low e.high n e.ordered in
    let at_p = ends_depart xs all some e p in
    let at_n = ends_depart xs all some e n in
    rw (middle_place xs all some e, there.2) (omega (arith, least.0, at_p, at_n), λ same. at_le p n (least.1 (omega arith)))
