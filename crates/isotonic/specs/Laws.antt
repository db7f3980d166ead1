-- The seven laws that every measure keeps: of what a list departs by at a level, how departures combine, and the level a list prefers. Assumes nothing.
use Rattle.std.specs.Prelude.{◌≡◌, ℕ, ◌+◌, ◌<◌, ◌≤◌, ◌⊎◌, List, [], ◌∷◌, ◌++◌, length, ℤ, ◌≤ℤ◌, ◌<ℤ◌}
use Rattle.std.specs.List.{AllZip}
use Rattle.reading.specs.declared.scale.Reading.{Reading}
use Rattle.reading.specs.Scale.{Level, OnScale, Scaled}
use Rattle.isotonic.specs.Bounds.{one_most}

-- the empty list departs by 0 at every level
abbrev pub EmptyDepartsByZero : (List Reading → ℤ → ℕ) → Type 0
EmptyDepartsByZero dep = (v : ℤ) → Level v → dep [] v ≡ 0

-- one list followed by another departs, at one level, by the combination of their two departures
abbrev pub JoinedDeparturesCombine : (List Reading → ℤ → ℕ) → (ℕ → ℕ → ℕ) → Type 0
JoinedDeparturesCombine dep comb =
    (xs ys : List Reading) (v : ℤ) → Scaled xs → Scaled ys → Level v → dep (xs ++ ys) v ≡ comb (dep xs v) (dep ys v)

-- combining: in any order and grouping, 0 adds nothing, a larger part never gives a smaller whole, and no whole is above the sum
pub record CombinesInAnyOrder (comb : ℕ → ℕ → ℕ) : Type 0 where
  pub associative : (x y z : ℕ) → comb (comb x y) z ≡ comb x (comb y z)
  pub commutative : (x y : ℕ) → comb x y ≡ comb y x
  pub zero_adds_nothing : (x : ℕ) → comb 0 x ≡ x
  pub monotone : (x y z : ℕ) → x ≤ y → comb x z ≤ comb y z
  pub at_most_sum : (x y : ℕ) → comb x y ≤ x + y

-- a single reading departs by a bounded amount
abbrev pub OneDepartsWithin : (List Reading → ℤ → ℕ) → Type 0
OneDepartsWithin dep = (r : Reading) (v : ℤ) → OnScale r → Level v → dep (r ∷ []) v ≤ one_most

-- u lies between p and v, either end allowed
abbrev pub LiesBetween : ℤ → ℤ → ℤ → Type 0
LiesBetween p u v = ((p ≤ℤ u) × (u ≤ℤ v)) ⊎ ((v ≤ℤ u) × (u ≤ℤ p))

-- the preferred level is a level, and no level between it and v departs by more than v
abbrev pub NearerDepartsNoMore : (List Reading → ℤ → ℕ) → (List Reading → ℤ) → Type 0
NearerDepartsNoMore dep pref =
    (xs : List Reading) → Scaled xs → 0 < length xs → Level (pref xs) × ((u v : ℤ) → Level v → LiesBetween (pref xs) u v → dep xs u ≤ dep xs v)

-- two lists joined are preferred neither below both nor above both
abbrev pub JoinedPrefersBetween : (List Reading → ℤ) → Type 0
JoinedPrefersBetween pref =
    (xs ys : List Reading) → Scaled xs → Scaled ys → 0 < length xs → 0 < length ys
    → (pref (xs ++ ys) <ℤ pref xs → pref (xs ++ ys) <ℤ pref ys → ⊥) × (pref xs <ℤ pref (xs ++ ys) → pref ys <ℤ pref (xs ++ ys) → ⊥)

-- as many readings, with values nowhere lower and the same weights
abbrev pub NowhereLower : List Reading → List Reading → Type 0
NowhereLower xs ys = AllZip (λ (x y : Reading). (x.value ≤ℤ y.value) × (x.weight ≡ y.weight)) xs ys

-- values nowhere lower, with the same weights, are preferred no lower
abbrev pub RaisedPrefersNoLower : (List Reading → ℤ) → Type 0
RaisedPrefersNoLower pref =
    (xs ys : List Reading) → Scaled xs → Scaled ys → 0 < length xs → NowhereLower xs ys → pref xs ≤ℤ pref ys
