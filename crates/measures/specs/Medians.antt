-- The weighted median: it is the first level at which the weighted absolute distances add up to the least.
use Rattle.std.specs.Prelude.{◌≡◌, ℕ, zero, suc, ◌+◌, ◌*◌, ◌<◌, ◌≤◌, Bool, true, false, cond, ◌⊎◌, List, [], ◌∷◌, length, ℤ, pos, ◌-ℤ◌, ◌≤ℤ◌, ◌<ℤ◌, filter, refl}
use Rattle.std.proofs.Common.{inl, inr, subst, mul-le-mul, arith}
use Rattle.std.proofs.lemmas.Int.{ints, by_lt_z}
use Rattle.std.proofs.lemmas.List.Elements.{All-filter, All-head, All-nil, All-tail, filter_passes}
use Rattle.std.proofs.lemmas.List.Sums.{sum_by-cons, sum_by-le-sum_by}
use Rattle.std.proofs.lemmas.Bool.{cases_lt, leb-true, le-leb}
use Rattle.std.specs.List.{All}
use Rattle.reading.specs.declared.scale.Reading.{Reading}
use Rattle.reading.specs.Scale.{Level, OnScale, Scaled}
use Rattle.isotonic.specs.Bounds.{one_most}
use Rattle.isotonic.specs.Scales.{level_bounds, value_level, weight_bounds}
use Rattle.measures.specs.Absolute.{absolute_cost, absolute_prefers, counted, reaches_half, weight_up_to}
use Rattle.measures.specs.Values.{distance, smallest, values, whole_weight}
use Rattle.isotonic.specs.Convex.{First, one_first}
use Rattle.measures.specs.Extremes.{smallest_bounds, smallest_holds}
use Rattle.isotonic.specs.Places.{at, placed, top}
use Rattle.measures.specs.Places.{distance_within}
use Rattle.measures.specs.Spans.{values_levels}
use Rattle.measures.specs.Weights.{whole_positive}
use Rattle.isotonic.specs.Costs.{CostBends, CostShifts, PrefersFirst, placed_cost}

counted_below : (r : Reading) (v : ℤ) → r.value ≤ℤ v → counted r v ≡ r.weight
counted_below r v h = grind (arith, ints)

counted_above : (r : Reading) (v : ℤ) → v <ℤ r.value → counted r v ≡ 0
counted_above r v h = grind (arith, ints)

pub counted_small : (r : Reading) (v : ℤ) → OnScale r → counted r v ≤ 1000
counted_small r v scaled = grind (arith, weight_bounds r scaled)

pub counted_within : (r : Reading) (v : ℤ) → OnScale r → Level v → counted r v ≤ one_most
counted_within r v scaled level = omega (arith, counted_small r v scaled)

-- one level higher, a reading costs its weight more if its value is not above, and else its weight less
cost_step : (r : Reading) (n : ℕ) → absolute_cost r (at (suc n)) + r.weight ≡ absolute_cost r (at n) + 2 * counted r (at n)
cost_step r n =
    by_lt_z (at n) r.value
    (λ h. let e : distance r.value (at n) ≡ suc (distance r.value (at (suc n))) = omega (arith, ints) in rw (counted_above r (at n) h, e) (omega arith))
    (λ h. let e : distance r.value (at (suc n)) ≡ suc (distance r.value (at n)) = omega (arith, ints) in rw (counted_below r (at n) h, e) (omega arith))

total_step : (rs : List Reading) (n : ℕ) → placed_cost absolute_cost rs (suc n) + whole_weight rs ≡ placed_cost absolute_cost rs n + 2 * weight_up_to rs (at n)
total_step [] n = refl
total_step (r ∷ rs) n =
    let rest = total_step rs n in
    let one = cost_step r n in
    omega (arith, sum_by-cons {X = Reading})

-- over a higher level a lower value of the same weight counts no less
counted_rises : (r s : Reading) (u v : ℤ) → r.weight ≡ s.weight → u ≤ℤ v → r.value ≤ℤ s.value → counted s u ≤ counted r v
counted_rises r s u v same h k = grind (arith, ints)

pub absolute_bends : CostBends absolute_cost
absolute_bends r scaled n h =
    omega (arith, cost_step r n, cost_step r (suc n), counted_rises r r (at n) (at (suc n)) refl (omega (arith, ints)) (omega (arith, ints)))

pub absolute_shifts : CostShifts absolute_cost
absolute_shifts r s scaled_r scaled_s h same n within =
    omega (arith, cost_step r n, cost_step s n, counted_rises r s (at n) (at n) same (omega (arith, ints)) h)

pub absolute_small : (r : Reading) (v : ℤ) → OnScale r → Level v → absolute_cost r v ≤ one_most
absolute_small r v scaled level = omega (arith, mul-le-mul (weight_bounds r scaled).1 (distance_within r v scaled level))

-- ---- what is preferred: the first level that reaches half of the weight

-- z is not above any value that passes: then it is not above v, if v passes and is a value; else going up to v adds nothing to the weight
up_to_step :
    (rs : List Reading) (v z : ℤ) (p : ℤ → Bool) → p v ≡ true → All (λ y. z ≤ℤ y) (filter p (values rs))
    → (z ≤ℤ v) ⊎ (weight_up_to rs v ≡ weight_up_to rs (v -ℤ pos 1))
up_to_step [] v z p passes all = inr refl
up_to_step (r ∷ rs) v z p passes all =
    let here = kept (p r.value) all in
    let step : (r.value ≡ v) ⊎ (counted r v ≡ counted r (v -ℤ pos 1)) = grind (arith, ints) in
    elim (up_to_step rs v z p passes here.1) [
      | inl h ↦ inl h
      | inr e ↦
          elim step [
            | inl same ↦ inl (rw (← same) (here.0 (cc)))
            | inr one ↦ inr (omega (arith, sum_by-cons {X = Reading}))
          ]
    ]
  where
    kept :
        (b : Bool) → All (λ y. z ≤ℤ y) (cond b (r.value ∷ filter p (values rs)) (filter p (values rs)))
        → (b ≡ true → z ≤ℤ r.value) × All (λ y. z ≤ℤ y) (filter p (values rs))
    kept true h = (λ e. All-head (λ y. z ≤ℤ y) r.value (filter p (values rs)) h, All-tail (λ y. z ≤ℤ y) r.value (filter p (values rs)) h)
    kept false h = (λ e. absurd (cc), h)

-- no value lies below the lowest level, and none above the highest
none_below : (rs : List Reading) → Scaled rs → weight_up_to rs (at 0 -ℤ pos 1) ≡ 0
none_below [] all = refl
none_below (r ∷ rs) all =
    let one = counted_above r (at 0 -ℤ pos 1) (omega (arith, ints, level_bounds r.value (value_level r (All-head OnScale r rs all)))) in
    omega (arith, none_below rs (All-tail OnScale r rs all), sum_by-cons {X = Reading})

pub all_below : (rs : List Reading) → Scaled rs → weight_up_to rs (at top) ≡ whole_weight rs
all_below [] all = refl
all_below (r ∷ rs) all =
    let one = counted_below r (at top) (omega (arith, ints, level_bounds r.value (value_level r (All-head OnScale r rs all)))) in
    omega (arith, all_below rs (All-tail OnScale r rs all), sum_by-cons {X = Reading})

pub up_to_rises : (rs : List Reading) (u v : ℤ) → u ≤ℤ v → weight_up_to rs u ≤ weight_up_to rs v
up_to_rises rs u v h = sum_by-le-sum_by (λ s. counted s u) (λ s. counted s v) rs (λ s. counted_rises s s u v refl h (omega (arith, ints)))

-- twice the weight of all values up to a level reaches the whole weight there, and at no lower level
pub record Median (rs : List Reading) (p : ℕ) : Type 0 where
  pub within : p ≤ top
  pub reached : whole_weight rs ≤ 2 * weight_up_to rs (at p)
  pub missed : (n : ℕ) → n < p → 2 * weight_up_to rs (at n) < whole_weight rs

module _ (rs : List Reading) (all : Scaled rs) (some : 0 < length rs) where
  -- what is below every value that reaches half is below every level that does
  bounds_halves :
      (z : ℤ) → All (λ y. z ≤ℤ y) (filter (reaches_half rs) (values rs)) → (n : ℕ) → whole_weight rs ≤ 2 * weight_up_to rs (at n) → z ≤ℤ at n
  bounds_halves z low zero half =
      elim (up_to_step rs (at 0) z (reaches_half rs) (le-leb _ _ half) low) [
        | inl h ↦ h
        | inr e ↦ absurd (omega (arith, whole_positive rs all some, none_below rs all))
      ]
  bounds_halves z low (suc n) half =
      let here : at (suc n) -ℤ pos 1 ≡ at n = omega (arith, ints) in
      elim (up_to_step rs (at (suc n)) z (reaches_half rs) (le-leb _ _ half) low) [
        | inl h ↦ h
        | inr e ↦ omega (arith, ints, bounds_halves z low n (omega (arith, rw here at e)))
      ]

  some_kept : (ks : List ℤ) → ks ≡ filter (reaches_half rs) (values rs) → 0 < length ks
  some_kept [] e =
      let high = bounds_halves (pos 30001) (subst (All (λ y. pos 30001 ≤ℤ y)) e (All-nil (λ y. pos 30001 ≤ℤ y))) top (omega (arith, all_below rs all)) in
      absurd (omega (arith, ints, high))
  some_kept (k ∷ ks) e = omega arith

  -- what is preferred is a median
  pub prefers_median : (p : ℕ) × (absolute_prefers rs ≡ at p) × Median rs p
  prefers_median =
      let kept = filter (reaches_half rs) (values rs) in
      let some_k = some_kept kept refl in
      let level = smallest_holds Level kept some_k (All-filter (reaches_half rs) Level (values rs) (values_levels rs all)) in
      let half = smallest_holds (λ x. reaches_half rs x ≡ true) kept some_k (filter_passes (reaches_half rs) (values rs)) in
      let place = placed (smallest kept) level in
      let median : Median rs place.0 =
      record {
        within = place.1;
        reached = leb-true _ _ (rw place.2 at half);
        missed =
            λ n h.
            elim (cases_lt (2 * weight_up_to rs (at n)) (whole_weight rs)) [
              | inl less ↦ less
              | inr more ↦ absurd (omega (arith, ints, place.2, bounds_halves (smallest kept) (smallest_bounds kept) n more))
            ];
      } in
      (place.0, place.2, median)

-- a median is the first level of least cost
median_first : (rs : List Reading) (p : ℕ) → Median rs p → First (placed_cost absolute_cost rs) top p
median_first rs p median =
    record {
      within = median.within;
      stays = λ h. omega (arith, total_step rs p, median.reached);
      falls = λ n h. omega (arith, total_step rs n, median.missed n h);
    }

-- so it is what is preferred
pub median_preferred : (rs : List Reading) (p : ℕ) → Scaled rs → 0 < length rs → Median rs p → at p ≡ absolute_prefers rs
median_preferred rs p all some median =
    let m = prefers_median rs all some in
    let same = one_first (placed_cost absolute_cost rs) top p m.0 (median_first rs p median) (median_first rs m.0 m.2) in
    cc

pub absolute_first : PrefersFirst absolute_cost absolute_prefers
absolute_first rs all some = let m = prefers_median rs all some in (m.0, m.1, median_first rs m.0 m.2)
