-- The weight of the values up to a level: how large it can be, and what it tells of the median.
use Rattle.std.proofs.Common.{◌≡◌, ℕ, ◌*◌, ◌^◌, ◌<◌, ◌≤◌, ◌⊎◌, inl, inr, List, length, ℤ, pos, ◌+ℤ◌, unsigned_abs, ap, ◌∙◌, arith, w32, to_z, of_z}
use lib.Signed.{mag}
use Rattle.std.proofs.lemmas.Bool.{cases_lt}
use Rattle.std.proofs.lemmas.Int.{ints}
use Rattle.reading.specs.declared.scale.Reading.{Reading}
use Rattle.reading.specs.Scale.{Scaled, limit}
use Rattle.isotonic.proofs.Sums.{sum_within}
use Rattle.isotonic.specs.Places.{at, at_le, top}
use Rattle.measures.specs.Absolute.{absolute_prefers, counted, weight_up_to}
use Rattle.measures.specs.Medians.{all_below, counted_small, prefers_median, up_to_rises}
use Rattle.measures.specs.Values.{whole_weight}
use Rattle.measures.proofs.Signs.{back}

pub up_to_few : (rs : List Reading) (v : ℤ) → Scaled rs → length rs ≤ limit → weight_up_to rs v ≤ 1_024_000
up_to_few rs v all few = omega (arith, sum_within (λ r. counted r v) 1000 (λ r on. counted_small r v on) rs all)

-- the place of what is preferred
pub median_place : List Reading → ℕ
median_place rs = unsigned_abs (absolute_prefers rs +ℤ pos 30000)

-- that is a place; the check finds this by the weight up to the highest level, which is all of it
pub prefers_place : (rs : List Reading) → Scaled rs → 0 < length rs → (weight_up_to rs (pos 30000) ≡ whole_weight rs) × (median_place rs ≤ top) × (absolute_prefers rs ≡ at (median_place rs))
unfolding median_place
prefers_place rs all some = let m = prefers_median rs all some in (all_below rs all, omega (arith, ints, m.1, m.2.within), omega (arith, ints, m.1))

-- whether half of the weight is reached at a level tells on which side of it the median lies
pub half_tells :
    (rs : List Reading) (v : ℤ) (n : ℕ) → mag v < 2 ^ 31 → v ≡ at n → Scaled rs → 0 < length rs
    → ((weight_up_to rs (pos 30000) ≤ 2 * weight_up_to rs (to_z w32 (of_z w32 v))) × (median_place rs ≤ n))
    ⊎ ((2 * weight_up_to rs (to_z w32 (of_z w32 v)) < weight_up_to rs (pos 30000)) × (n < median_place rs))
half_tells rs v n fits e all some =
    let m = prefers_median rs all some in
    let own = (prefers_place rs all some).2 in
    let p : median_place rs ≡ m.0 = omega (arith, ints, own, m.1) in
    let same = ap (weight_up_to rs) (back v fits ∙ e) in
    let whole = all_below rs all in
    elim (cases_lt n m.0) [
      | inl h ↦ inr (omega (arith, m.2.missed n h), omega arith)
      | inr h ↦ inl (omega (arith, m.2.reached, up_to_rises rs (at m.0) (at n) (at_le m.0 n h)), omega arith)
    ]
