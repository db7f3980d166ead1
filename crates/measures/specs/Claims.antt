-- The theorems on the three measures and on the words that define them. Assumes nothing.
use Rattle.std.specs.Prelude.{◌≡◌, ℕ, ◌<◌, ◌≤◌, List, length, ℤ, pos, ◌*ℤ◌, ◌≤ℤ◌}
use Rattle.std.specs.List.{Contains, All}
use Rattle.isotonic.specs.Smallest.{PrefersSmallestOfLeast}
use Rattle.measures.specs.Absolute.{absolute_departs, absolute_prefers}
use Rattle.measures.specs.Largest.{largest_departs, largest_prefers}
use Rattle.measures.specs.Squared.{squared_departs, squared_prefers}
use Rattle.measures.specs.Values.{distance, floored, largest, nearest, smallest}

-- under A, S and L the preferred level is the smallest of the levels of least departure
abbrev pub AllPreferSmallestOfLeast : Type 0
AllPreferSmallestOfLeast =
    PrefersSmallestOfLeast absolute_departs absolute_prefers × PrefersSmallestOfLeast squared_departs squared_prefers
    × PrefersSmallestOfLeast largest_departs largest_prefers

-- the smallest and the largest of a list stand in it and bound it
abbrev pub ExtremesAreReached : Type 0
ExtremesAreReached =
    (xs : List ℤ) → 0 < length xs
    → Contains xs (smallest xs) × All (λ x. smallest xs ≤ℤ x) xs × Contains xs (largest xs) × All (λ x. x ≤ℤ largest xs) xs

-- n times the floored quotient is not above z, and of no larger whole number is that so
abbrev pub FlooredIsLargestNotAbove : Type 0
FlooredIsLargestNotAbove =
    (z : ℤ) (n : ℕ) → 0 < n → ((pos n *ℤ floored z n) ≤ℤ z) × ((u : ℤ) → (pos n *ℤ u) ≤ℤ z → u ≤ℤ floored z n)

-- n times the nearest whole number is no farther from z than n times any other, and any other as near is larger
abbrev pub NearestIsNearest : Type 0
NearestIsNearest =
    (z : ℤ) (n : ℕ) → 0 < n → (u : ℤ)
    → (distance z (pos n *ℤ nearest z n) ≤ distance z (pos n *ℤ u)) × (distance z (pos n *ℤ u) ≡ distance z (pos n *ℤ nearest z n) → nearest z n ≤ℤ u)
