-- Costs over the places 0 to top that bend upwards, and the first place at which such a cost is least.
use Rattle.std.specs.Prelude.{◌≡◌, ℕ, zero, suc, ◌+◌, ◌-◌, ◌<◌, ◌≤◌}
use Rattle.std.proofs.Common.{arith}

-- the change from one place to the next never shrinks
abbrev pub Bends : (ℕ → ℕ) → ℕ → Type 0
Bends D top = (n : ℕ) → suc (suc n) ≤ top → D (suc n) + D (suc n) ≤ D n + D (suc (suc n))

-- p is the first place at which the cost is least: it falls at every place before, and at p no more
pub record First (D : ℕ → ℕ) (top p : ℕ) : Type 0 where
  pub within : p ≤ top
  pub stays : p < top → D p ≤ D (suc p)
  pub falls : (n : ℕ) → n < p → D (suc n) < D n

module _ (D : ℕ → ℕ) (top p : ℕ) (bends : Bends D top) (first : First D top p) where
  -- from the first least place on the cost never falls
  rises_from : (k n : ℕ) → n ≡ p + k → n < top → D n ≤ D (suc n)
  rises_from zero n e h = grind (arith, first.stays)
  rises_from (suc k) zero e h = absurd (omega arith)
  rises_from (suc k) (suc n) e h = omega (arith, rises_from k n (omega arith) (omega arith), bends n h)

  pub rises_after : (n : ℕ) → p ≤ n → n < top → D n ≤ D (suc n)
  rises_after n low high = rises_from (n - p) n (omega arith) high

  up_to : (k u v : ℕ) → v ≡ u + k → p ≤ u → v ≤ top → D u ≤ D v
  up_to zero u v e low high = grind arith
  up_to (suc k) u zero e low high = absurd (omega arith)
  up_to (suc k) u (suc v) e low high = omega (arith, up_to k u v (omega arith) low (omega arith), rises_after v (omega arith) high)

  -- nearer to it, from above, the cost is no more
  pub nearer_above : (u v : ℕ) → p ≤ u → u ≤ v → v ≤ top → D u ≤ D v
  nearer_above u v low h high = up_to (v - u) u v (omega arith) low high

  down_to : (k u v : ℕ) → u ≡ v + k → u ≤ p → D u ≤ D v
  down_to zero u v e low = grind arith
  down_to (suc k) zero v e low = absurd (omega arith)
  down_to (suc k) (suc u) v e low = omega (arith, down_to k u v (omega arith) (omega arith), first.falls u low)

  -- and from below
  pub nearer_below : (u v : ℕ) → v ≤ u → u ≤ p → D u ≤ D v
  nearer_below u v h low = down_to (u - v) u v (omega arith) low

  -- it is least there, and at no place before
  pub first_least : (n : ℕ) → n ≤ top → (D p ≤ D n) × (D n ≡ D p → p ≤ n)
  first_least n h =
      let drop = first.falls n in
      let down = nearer_below p (suc n) in
      let up = nearer_above p n in
      (grind arith, λ same. grind arith)

-- the first least place of two costs together is neither before both nor after both
module _ (D E F : ℕ → ℕ) (top p q m : ℕ) (both : (n : ℕ) → F n ≡ D n + E n) (bends_D : Bends D top) (bends_E : Bends E top)
    (first_D : First D top p) (first_E : First E top q) (first_F : First F top m) where
  pub not_before_both : m < p → m < q → ⊥
  not_before_both a b =
      let d = first_D.falls m a in
      let e = first_E.falls m b in
      let t = first_D.within in
      let f = first_F.stays (omega arith) in
      omega (arith, both m, both (suc m))

  pub not_after_both : p < m → q < m → ⊥
  not_after_both a b =
      let k = m - 1 in
      let t = first_F.within in
      let d = rises_after D top p bends_D first_D k (omega arith) (omega arith) in
      let e = rises_after E top q bends_E first_E k (omega arith) (omega arith) in
      let f = first_F.falls k (omega arith) in
      omega (arith, both k, both (suc k))

-- a cost whose change is nowhere larger has its first least place no earlier
pub no_earlier :
    (D E : ℕ → ℕ) (top p q : ℕ) → First D top p → First E top q → ((n : ℕ) → n < top → E (suc n) + D n ≤ E n + D (suc n)) → p ≤ q
no_earlier D E top p q first_D first_E change =
    let t = first_D.within in
    let d = first_D.falls q in
    let e = first_E.stays in
    let c = change q in
    grind arith

-- a cost has one first least place
pub one_first : (D : ℕ → ℕ) (top p q : ℕ) → First D top p → First D top q → p ≡ q
one_first D top p q a b =
    let le = no_earlier D D top p q a b (λ n h. omega arith) in
    let ge = no_earlier D D top q p b a (λ n h. omega arith) in
    omega arith
