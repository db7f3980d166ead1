-- The level preferred, among all levels of least departure. Assumes nothing.
use Rattle.std.specs.Prelude.{◌≡◌, ℕ, ◌<◌, ◌≤◌, List, length, ℤ, ◌≤ℤ◌}
use Rattle.reading.specs.declared.scale.Reading.{Reading}
use Rattle.reading.specs.Scale.{Level, Scaled}

-- what is preferred is the smallest of the levels at which a list departs by the least
abbrev pub PrefersSmallestOfLeast : (List Reading → ℤ → ℕ) → (List Reading → ℤ) → Type 0
PrefersSmallestOfLeast dep pref =
    (xs : List Reading) → Scaled xs → 0 < length xs → (v : ℤ) → Level v → (dep xs (pref xs) ≤ dep xs v) × (dep xs v ≡ dep xs (pref xs) → pref xs ≤ℤ v)
