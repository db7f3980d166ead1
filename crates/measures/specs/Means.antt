-- The weighted mean: the whole number nearest to it is the first level at which the weighted squares add up to the least.
use Rattle.std.specs.Prelude.{◌≡◌, ℕ, suc, ◌+◌, ◌-◌, ◌*◌, ◌/◌, ◌<◌, ◌≤◌, List, [], ◌∷◌, length, ℤ, pos, ◌+ℤ◌, refl}
use Rattle.std.proofs.Common.{inl, inr, ap, mul-le-mul, mul-le-mul_left, arith}
use borrow.Author.Differences.{down, product_is, up}
use Rattle.std.proofs.lemmas.Int.{ints}
use Rattle.std.proofs.lemmas.List.Elements.{All-head, All-tail}
use Rattle.std.proofs.lemmas.List.Sums.{sum_by-cons}
use Rattle.std.proofs.lemmas.Bool.Decides.{nat_tests}
use Rattle.std.proofs.lemmas.Bool.{cases_lt}
use Rattle.reading.specs.declared.scale.Reading.{Reading}
use Rattle.reading.specs.Scale.{Level, OnScale, Scaled}
use Rattle.isotonic.specs.Bounds.{one_most}
use Rattle.isotonic.specs.Scales.{level_bounds, value_level, weight_bounds}
use Rattle.measures.specs.Squared.{place_of, squared_cost, squared_prefers, weighted_places, weighted_sum}
use Rattle.measures.specs.Values.{distance, floored, left_over, nearest, whole_weight}
use Rattle.isotonic.specs.Convex.{First, one_first}
use Rattle.isotonic.specs.Places.{at, top}
use Rattle.measures.specs.Places.{distance_within}
use Rattle.measures.specs.Quotients.{floored_shifted, left_over_shifted}
use Rattle.measures.specs.Weights.{whole_positive}
use Rattle.isotonic.specs.Costs.{CostBends, CostShifts, PrefersFirst, placed_cost}

value_placed : (r : Reading) → OnScale r → r.value ≡ at (place_of r)
value_placed r scaled = let b = level_bounds r.value (value_level r scaled) in omega (arith, ints)

pub place_within : (r : Reading) → OnScale r → place_of r ≤ top
place_within r scaled = let b = level_bounds r.value (value_level r scaled) in omega (arith, ints)

-- one place on, the square of a distance changes by an odd number
square_step :
    (v : ℤ) (x n : ℕ) → v ≡ at x
    → distance v (at (suc n)) * distance v (at (suc n)) + 2 * x ≡ distance v (at n) * distance v (at n) + 2 * n + 1
square_step v x n here =
    elim (cases_lt n x) [
      | inl h ↦
          let d : distance v (at n) ≡ suc (distance v (at (suc n))) = omega (arith, ints) in
          let e : distance v (at (suc n)) ≡ x - suc n = omega (arith, ints) in
          rw (d, e) (omega arith)
      | inr h ↦
          let d : distance v (at n) ≡ n - x = omega (arith, ints) in
          let e : distance v (at (suc n)) ≡ suc (n - x) = omega (arith, ints) in
          rw (d, e) (omega arith)
    ]

cost_step :
    (r : Reading) (n : ℕ) → OnScale r
    → squared_cost r (at (suc n)) + 2 * (r.weight * place_of r) ≡ squared_cost r (at n) + (2 * n + 1) * r.weight
cost_step r n scaled = omega (arith, ap (λ z. r.weight * z) (square_step r.value (place_of r) n (value_placed r scaled)))

total_step :
    (rs : List Reading) (n : ℕ) → Scaled rs
    → placed_cost squared_cost rs (suc n) + 2 * weighted_places rs ≡ placed_cost squared_cost rs n + (2 * n + 1) * whole_weight rs
total_step [] n all = omega arith
total_step (r ∷ rs) n all =
    let rest = total_step rs n (All-tail OnScale r rs all) in
    let one = cost_step r n (All-head OnScale r rs all) in
    let weights = ap (λ w. (2 * n + 1) * w) (sum_by-cons (λ s. s.weight) r rs) in
    omega (arith, sum_by-cons {X = Reading})

pub squared_bends : CostBends squared_cost
squared_bends r scaled n h = omega (arith, cost_step r n scaled, cost_step r (suc n) scaled)

pub squared_shifts : CostShifts squared_cost
squared_shifts r s scaled_r scaled_s h same n within =
    let x = level_bounds r.value (value_level r scaled_r) in
    let y = level_bounds s.value (value_level s scaled_s) in
    let rises : place_of r ≤ place_of s = omega (arith, ints) in
    let weights = ap (λ w. w * place_of s) same in
    let odd = ap (λ w. (2 * n + 1) * w) same in
    omega (arith, cost_step r n scaled_r, cost_step s n scaled_s, mul-le-mul_left r.weight rises)

pub squared_small : (r : Reading) (v : ℤ) → OnScale r → Level v → squared_cost r v ≤ one_most
squared_small r v scaled level =
    let far = distance_within r v scaled level in
    omega (arith, mul-le-mul (weight_bounds r scaled).1 (mul-le-mul far far))

-- ---- what is preferred: the first level that is at least the mean less a half

-- p is the first place with 2 * sum <= (2 * p + 1) * weight
pub record Mean (sum weight p : ℕ) : Type 0 where
  pub reached : 2 * sum ≤ (2 * p + 1) * weight
  pub missed : (n : ℕ) → n < p → (2 * n + 1) * weight < 2 * sum

-- it is known by a bound on either side
mean_between : (sum weight p : ℕ) → 2 * (weight * p) < 2 * sum + weight → 2 * sum ≤ 2 * (weight * p) + weight → Mean sum weight p
mean_between sum weight p low high = record { reached = omega arith; missed = λ n h. omega (arith, mul-le-mul_left weight h) }

-- that place as one quotient
quotient_mean : (sum weight p : ℕ) → 0 < weight → p ≡ (2 * sum + weight - 1) / (2 * weight) → Mean sum weight p
quotient_mean sum weight p some e =
    let parts = ap (λ j. weight * j) e in
    mean_between sum weight p (omega arith) (omega arith)

-- the nearest whole number to a quotient is such a place
nearest_mean :
    (z : ℤ) (weight sum : ℕ) → 0 < weight → z +ℤ pos (30000 * weight) ≡ pos sum → (p : ℕ) × (nearest z weight ≡ at p) × Mean sum weight p
nearest_mean z weight sum some shifted =
    let q = sum / weight in
    let floor = floored_shifted z weight 30000 sum some shifted in
    let rest = left_over_shifted z weight 30000 sum some shifted in
    elim (cases_lt weight (2 * left_over z weight)) [
      | inl high ↦
          let next : floored z weight +ℤ pos 1 ≡ at (suc q) = omega (arith, ints, floor) in
          (suc q, grind (arith, nat_tests), mean_between sum weight (suc q) (omega arith) (omega arith))
      | inr low ↦ (q, grind (arith, nat_tests), mean_between sum weight q (omega arith) (omega arith))
    ]

sum_shifted : (rs : List Reading) → Scaled rs → weighted_sum rs +ℤ pos (30000 * whole_weight rs) ≡ pos (weighted_places rs)
sum_shifted [] all = refl
sum_shifted (r ∷ rs) all =
    let rest = sum_shifted rs (All-tail OnScale r rs all) in
    let here : up r.value + 30000 ≡ place_of r + down r.value = omega (arith, ints, value_placed r (All-head OnScale r rs all)) in
    let times = ap (λ z. r.weight * z) here in
    omega (arith, ints, product_is (pos r.weight) r.value, sum_by-cons {X = Reading})

-- no place in the list is above the last
pub places_within : (rs : List Reading) → Scaled rs → weighted_places rs ≤ top * whole_weight rs
places_within [] all = omega arith
places_within (r ∷ rs) all =
    omega (arith, places_within rs (All-tail OnScale r rs all), mul-le-mul_left r.weight (place_within r (All-head OnScale r rs all)), sum_by-cons {X = Reading})

module _ (rs : List Reading) (all : Scaled rs) (some : 0 < length rs) where
  -- what is preferred is the mean's place
  prefers_mean : (p : ℕ) × (squared_prefers rs ≡ at p) × Mean (weighted_places rs) (whole_weight rs) p
  prefers_mean = nearest_mean (weighted_sum rs) (whole_weight rs) (weighted_places rs) (whole_positive rs all some) (sum_shifted rs all)

  mean_within : (p : ℕ) → Mean (weighted_places rs) (whole_weight rs) p → p ≤ top
  mean_within p mean =
      let missed = mean.missed top in
      grind (arith, places_within rs all, whole_positive rs all some)

  -- the mean's place is the first level of least cost
  mean_first : (p : ℕ) → Mean (weighted_places rs) (whole_weight rs) p → First (placed_cost squared_cost rs) top p
  mean_first p mean =
      record {
        within = mean_within p mean;
        stays = λ h. omega (arith, total_step rs p all, mean.reached);
        falls = λ n h. omega (arith, total_step rs n all, mean.missed n h);
      }

  -- the quotient of what a list weighs is what is preferred
  pub quotient_preferred :
      (sum weight p : ℕ) → sum ≡ weighted_places rs → weight ≡ whole_weight rs → p ≡ (2 * sum + weight - 1) / (2 * weight)
      → (p ≤ top) × (at p ≡ squared_prefers rs)
  quotient_preferred sum weight p e f g =
      let own = quotient_mean sum weight p (omega (arith, whole_positive rs all some)) g in
      let mean = rw (e, f) at own in
      let m = prefers_mean in
      let same = one_first (placed_cost squared_cost rs) top p m.0 (mean_first p mean) (mean_first m.0 m.2) in
      (mean_within p mean, cc)

pub squared_first : PrefersFirst squared_cost squared_prefers
squared_first rs all some = let m = prefers_mean rs all some in (m.0, m.1, mean_first rs all some m.0 m.2)
