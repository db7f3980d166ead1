-- Quotients of whole numbers of either sign: what lies below one, and what is left over.
use Rattle.std.proofs.Common.{inl, inr, ap, ◌∙◌, mul-le-mul_left, arith}
use Rattle.std.specs.Prelude.{◌≡◌, ℕ, suc, ◌+◌, ◌-◌, ◌*◌, ◌/◌, ◌%◌, ◌<◌, ◌≤◌, ℤ, pos, negsuc, ◌+ℤ◌, ◌-ℤ◌, ◌*ℤ◌, ◌≤ℤ◌, ◌<ℤ◌, unsigned_abs, refl}
use borrow.Author.Differences.{down, product_is, up}
use Rattle.std.proofs.Math.Arith.{digits_div}
use Rattle.std.proofs.lemmas.Int.{ints, int_rem_euclid_is}
use Rattle.std.proofs.lemmas.Bool.Decides.{nat_tests}
use Rattle.std.proofs.lemmas.Bool.{cases_lt}
use Rattle.measures.specs.Claims.{FlooredIsLargestNotAbove, NearestIsNearest}
use Rattle.measures.specs.Values.{distance, floored, left_over, nearest}

-- a quotient is known by its parts
quotient_is : (m n q r : ℕ) → r < n → m ≡ q * n + r → m / n ≡ q
quotient_is m n q r h e = ap (λ k. k / n) e ∙ digits_div q h

-- k times the divisor more is k more below
pub floored_shifted : (z : ℤ) (n k m : ℕ) → 0 < n → z +ℤ pos (k * n) ≡ pos m → floored z n ≡ pos (m / n) -ℤ pos k
floored_shifted (pos a) n k m some shifted =
    let sum : m ≡ a + k * n = omega (arith, ints) in
    let q : m / n ≡ a / n + k = quotient_is m n (a / n + k) (a % n) (omega arith) (omega arith) in
    omega (arith, ints)
floored_shifted (negsuc a) n k m some shifted =
    let sum : k * n ≡ m + suc a = omega (arith, ints) in
    elim (cases_lt (a / n) k) [
      | inl h ↦
          let t = k - suc (a / n) in
          let more : k * n ≡ (suc (a / n) + t) * n = ap (λ j. j * n) (omega arith) in
          let q : m / n ≡ t = quotient_is m n t (n - suc (a % n)) (omega arith) (omega arith) in
          omega (arith, ints)
      | inr h ↦ absurd (omega (arith, mul-le-mul_left n h))
    ]

-- and leaves the same over
pub left_over_shifted : (z : ℤ) (n k m : ℕ) → 0 < n → z +ℤ pos (k * n) ≡ pos m → left_over z n ≡ m % n
left_over_shifted z n k m some shifted = ap unsigned_abs (int_rem_euclid_is z (pos n) n k m some refl shifted)

-- ---- what the words say

times_le : (n : ℕ) (u v : ℤ) → u ≤ℤ v → (pos n *ℤ u) ≤ℤ (pos n *ℤ v)
times_le n u v h =
    let le : up u + down v ≤ up v + down u = omega (arith, ints) in
    omega (arith, ints, product_is (pos n) u, product_is (pos n) v, mul-le-mul_left n le)

-- whole numbers that differ are n apart once they are taken n times
times_gap : (n : ℕ) (u v : ℤ) → u <ℤ v → ((pos n *ℤ u) +ℤ pos n) ≤ℤ (pos n *ℤ v)
times_gap n u v h =
    let le : suc (up u + down v) ≤ up v + down u = omega (arith, ints) in
    omega (arith, ints, product_is (pos n) u, product_is (pos n) v, mul-le-mul_left n le)

-- a number is made of the part below and what is left over
parts : (z : ℤ) (n : ℕ) → 0 < n → (z ≡ (pos n *ℤ floored z n) +ℤ pos (left_over z n)) × (left_over z n < n)
parts (pos a) n some = (omega (arith, ints), omega arith)
parts (negsuc a) n some = (omega (arith, ints), omega arith)

pub floored_largest : FlooredIsLargestNotAbove
floored_largest z n some =
    let made = parts z n some in (omega (arith, ints), λ u h. let gap = times_gap n (floored z n) u in grind (arith, ints))

-- how far the part below and the next whole number are off
module _ (z q : ℤ) (n rest : ℕ) (made : z ≡ (pos n *ℤ q) +ℤ pos rest) (less : rest < n) where
  below_nearest :
      2 * rest ≤ n → (u : ℤ)
      → (distance z (pos n *ℤ q) ≤ distance z (pos n *ℤ u)) × (distance z (pos n *ℤ u) ≡ distance z (pos n *ℤ q) → q ≤ℤ u)
  below_nearest half u =
      let far : distance z (pos n *ℤ q) ≡ rest = omega (arith, ints) in
      let below = times_gap n u q in
      let above = times_gap n q u in
      let le = times_le n u q in
      let ge = times_le n q u in
      (grind (arith, ints), λ same. grind (arith, ints))

  next_nearest :
      n < 2 * rest → (u : ℤ)
      → (distance z (pos n *ℤ (q +ℤ pos 1)) ≤ distance z (pos n *ℤ u))
      × (distance z (pos n *ℤ u) ≡ distance z (pos n *ℤ (q +ℤ pos 1)) → (q +ℤ pos 1) ≤ℤ u)
  next_nearest half u =
      let one : up (q +ℤ pos 1) + down q ≡ suc (up q + down (q +ℤ pos 1)) = omega (arith, ints) in
      let times = ap (λ k. n * k) one in
      let back : pos n *ℤ (q +ℤ pos 1) ≡ (pos n *ℤ q) +ℤ pos n = omega (arith, ints, product_is (pos n) (q +ℤ pos 1), product_is (pos n) q) in
      let far : distance z (pos n *ℤ (q +ℤ pos 1)) ≡ n - rest = omega (arith, ints) in
      let above = times_gap n q u in
      let low = times_le n u q in
      (grind (arith, ints), λ same. grind (arith, ints))

pub nearest_nearest : NearestIsNearest
nearest_nearest z n some u =
    let made = parts z n some in
    let q = floored z n in
    let rest = left_over z n in
    elim (cases_lt n (2 * rest)) [
      | inl high ↦ let is : nearest z n ≡ q +ℤ pos 1 = grind (arith, nat_tests) in rw is (next_nearest z q n rest made.0 made.1 high u)
      | inr low ↦ let is : nearest z n ≡ q = grind (arith, nat_tests) in rw is (below_nearest z q n rest made.0 made.1 low u)
    ]
