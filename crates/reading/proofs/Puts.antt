-- Entries put into a list from a place on: how long it stays, behind others, at the front, and none at all.
use Rattle.std.proofs.Common.{◌≡◌, ℕ, ◌+◌, ◌≤◌, leb, List, [], ◌++◌, length, take, refl, arith}
use Rattle.std.proofs.lemmas.Bool.{cond_both, leb-true}
use Rattle.std.proofs.lemmas.Grind.{common_steps}
use Rattle.std.proofs.lemmas.List.{length-append, length-drop, length-take}
use Rattle.std.proofs.lemmas.List.Edits.{paste-paste}
use Rattle.reading.specs.Lists.{put_from}

-- a list that is put into stays as long as it is
pub length_put : {X : Type 0} (n : ℕ) (xs out : List X) → length (put_from n xs out) ≡ length out
length_put n xs out =
    cond_both (leb (n + length xs) (length out)) _ _ (λ ys. length ys ≡ length out)
    (λ e. let h = leb-true (n + length xs) (length out) e in simp (length-append, length-take, length-drop) (omega arith))
    (λ e. refl)

-- entries put behind others are put with them
pub put_then :
    {X : Type 0} (out : List X) (n : ℕ) (xs ys : List X) (m : ℕ) → m ≡ n + length xs → m + length ys ≤ length out
    → put_from m ys (put_from n xs out) ≡ put_from n (xs ++ ys) out
put_then out n xs ys m e h = grind (arith, common_steps, paste-paste out n xs ys (length xs) (length ys) refl refl)

-- what was put to the front is found there
pub take_put : {X : Type 0} (xs out : List X) (n : ℕ) → n ≡ length xs → n ≤ length out → take n (put_from 0 xs out) ≡ xs
take_put xs out n e h = grind (arith, common_steps)

-- no entries put anywhere
pub put_none : {X : Type 0} (n : ℕ) (out : List X) → out ≡ put_from n [] out
put_none n out = grind (arith, common_steps)
