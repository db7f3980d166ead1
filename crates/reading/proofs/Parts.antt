-- Parts of a slice of readings: what is behind a place, the stretch between two, and the front that is on the scale.
use Rattle.std.proofs.Common.{◌≡◌, ℕ, ◌-◌, ◌≤◌, min, List, length, take, drop, sym, ap, ◌∙◌, inl, inr, arith}
use Rattle.std.specs.List.{prefix_len}
use Rattle.std.proofs.lemmas.Bool.{cases_lt}
use Rattle.std.proofs.lemmas.Grind.{common_steps}
use Rattle.std.proofs.lemmas.List.{drop_all, drop_min, length-take, take_min}
use Rattle.std.proofs.lemmas.List.Sums.{prefix_len_passes}
use Rattle.std.proofs.lemmas.Slice.{between_is}
use Rattle.reading.specs.declared.scale.Reading.{Reading}
use Rattle.reading.specs.Lists.{stretch}
use Rattle.reading.specs.Scale.{on_scale, Scaled}

-- what is behind a place clamped to a bound that is no less than the length is what is behind that place
pub drop_clamped : {X : Type 0} (xs : List X) (n m top : ℕ) → length xs ≤ top → m ≡ min n top → drop m xs ≡ drop n xs
drop_clamped xs n m top within e =
    elim (cases_lt n top) [
      | inl h ↦ let f : m ≡ n = omega arith in ap (λ k. drop k xs) f
      | inr h ↦ drop_all m xs (omega arith) ∙ sym (drop_all n xs (omega arith))
    ]

-- a part of a slice between clamped indices is the stretch that was asked for
pub stretch_clamped :
    {X : Type 0} (xs : List X) (s t from to : ℕ) → to ≡ min t (length xs) → from ≡ min (s - 1) to → take (to - from) (drop from xs) ≡ stretch xs s t
stretch_clamped xs s t from to e f = rw (between_is, f, e, take_min, ← (length-take t xs), drop_min)

-- the rows before the first that is off the scale are on it
pub scaled_taken : (rs : List Reading) (n : ℕ) → n ≡ prefix_len on_scale rs → Scaled (take n rs)
scaled_taken rs n e k d h = grind (arith, common_steps, prefix_len_passes on_scale rs k d)
