-- The rows stored behind the sizes: bytes cut and read as numbers are numbers read and cut.
use Rattle.std.proofs.Common.{◌≡◌, ℕ, zero, suc, ◌*◌, List, [], ◌∷◌, map, take, drop, refl, ap, arith}
use Rattle.stored.specs.Forms.{paired, stored_rows}
use Rattle.stored.specs.Words.{word, words, from_complement}

words_cut : (n : ℕ) (bs : List ℕ) → (words (take (2 * n) bs) ≡ take n (words bs)) × (words (drop (2 * n) bs) ≡ drop n (words bs))
words_cut zero bs = (refl, refl)
words_cut (suc n) [] = let e : 2 * suc n ≡ suc (suc (2 * n)) = omega arith in rw e (refl, refl)
words_cut (suc n) (a ∷ []) = let e : 2 * suc n ≡ suc (suc (2 * n)) = omega arith in rw e (refl, refl)
words_cut (suc n) (a ∷ b ∷ bs) =
    let e : 2 * suc n ≡ suc (suc (2 * n)) = omega arith in
    let rest = words_cut n bs in
    rw e (ap (λ ns. word a b ∷ ns) rest.0, rest.1)

pub stored_words : (n : ℕ) (rest : List ℕ) → stored_rows n rest ≡ paired (map from_complement (take n (words rest))) (drop n (words rest))
stored_words n rest = let cut = words_cut n rest in rw (cut.0, cut.1)
