-- Worked figures of the three measures: what their definitions come to on short lists. Assumes nothing.
use Rattle.std.specs.Prelude.{◌≡◌, ℕ, List, [], ◌∷◌, map, ℤ, pos, negsuc}
use Rattle.reading.specs.declared.scale.Reading.{Reading}
use Rattle.measures.specs.Absolute.{absolute_departs, absolute_prefers}
use Rattle.measures.specs.Largest.{largest_departs, largest_prefers}
use Rattle.measures.specs.Squared.{squared_departs, squared_prefers}

-- a reading of a value and a weight
abbrev pub of : ℤ → ℕ → Reading
of x w = record { value = x; weight = w }

-- the level that a list prefers, and what it departs by there
abbrev pub told : (List Reading → ℤ → ℕ) → (List Reading → ℤ) → List Reading → ℤ × ℕ
told dep pref rs = (pref rs, dep rs (pref rs))

-- that under A, S and L
abbrev pub figures : List Reading → List (ℤ × ℕ)
figures rs = told absolute_departs absolute_prefers rs ∷ told squared_departs squared_prefers rs ∷ told largest_departs largest_prefers rs ∷ []

-- the lists: the lowest value alone; a half below zero; two weights; a half above zero; a half farther below zero; a heavy end
abbrev pub lists : List (List Reading)
lists =
    (of (negsuc 29999) 1 ∷ [])
    ∷ (of (pos 0) 1 ∷ of (negsuc 0) 1 ∷ [])
    ∷ (of (pos 5) 3 ∷ of (pos 1) 1 ∷ [])
    ∷ (of (pos 2) 1 ∷ of (pos 1) 1 ∷ [])
    ∷ (of (negsuc 1) 1 ∷ of (negsuc 4) 1 ∷ [])
    ∷ (of (pos 9) 1 ∷ of (negsuc 8) 1000 ∷ of (pos 9) 1 ∷ [])
    ∷ []

-- and what they come to
abbrev pub come_to : List (List (ℤ × ℕ))
come_to =
    ((negsuc 29999, 0) ∷ (negsuc 29999, 0) ∷ (negsuc 29999, 0) ∷ [])
    ∷ ((negsuc 0, 1) ∷ (negsuc 0, 1) ∷ (negsuc 0, 1) ∷ [])
    ∷ ((pos 5, 4) ∷ (pos 4, 12) ∷ (pos 3, 2) ∷ [])
    ∷ ((pos 1, 1) ∷ (pos 1, 1) ∷ (pos 1, 1) ∷ [])
    ∷ ((negsuc 4, 3) ∷ (negsuc 3, 5) ∷ (negsuc 3, 2) ∷ [])
    ∷ ((negsuc 8, 36) ∷ (negsuc 8, 648) ∷ (pos 0, 9) ∷ [])
    ∷ []

abbrev pub WorkedFigures : Type 0
WorkedFigures = map figures lists ≡ come_to
