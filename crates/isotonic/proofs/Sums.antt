-- Sums over the readings of a list, each of which adds no more than a bound.
use Rattle.std.proofs.Common.{◌≡◌, ℕ, ◌*◌, ◌%◌, ◌^◌, ◌<◌, ◌≤◌, List, [], ◌∷◌, length, sum_by, refl, arith}
use Rattle.std.proofs.lemmas.List.Elements.{All-head, All-tail}
use Rattle.std.proofs.lemmas.List.Sums.{sum_by-cons, sum_by-le}
use Rattle.reading.specs.declared.scale.Reading.{Reading}
use Rattle.reading.specs.Scale.{OnScale, Scaled}

module _ (f : Reading → ℕ) (most : ℕ) (small : (r : Reading) → OnScale r → f r ≤ most) where
  -- no sum passes the bound times the number of readings
  pub sum_within : (rs : List Reading) → Scaled rs → sum_by f rs ≤ length rs * most
  sum_within rs scaled = sum_by-le f most rs (λ k d h. small _ (scaled k d h))

  -- a word that holds the bound holds what each adds
  pub sum_held : most < 2 ^ 64 → (rs : List Reading) → Scaled rs → sum_by (λ r. f r % 2 ^ 64) rs ≡ sum_by f rs
  sum_held fits [] scaled = refl
  sum_held fits (r ∷ rs) scaled =
      let one = small r (All-head OnScale r rs scaled) in
      let rest = sum_held fits rs (All-tail OnScale r rs scaled) in
      omega (arith, sum_by-cons {X = Reading})
