-- Numbers as two bytes: there and back, one and many.
use Rattle.std.proofs.Common.{◌≡◌, ℕ, zero, suc, ◌+◌, ◌-◌, ◌*◌, ◌/◌, ◌%◌, ◌<◌, cond, ltb, List, [], ◌∷◌, map, length, get_or, pos, negsuc, sym, refl, ap, ◌∙◌, arith, w16, to_z}
use Rattle.std.specs.List.{All, flat_map}
use Rattle.std.specs.Simd.{first_chunks}
use Rattle.std.proofs.lemmas.Bool.{cond-true, cond-false, lt-ltb, le-ltb}
use Rattle.std.proofs.lemmas.Bool.Decides.{nat_tests}
use Rattle.std.proofs.lemmas.List.Elements.{All-cons, All-nil, All-tail}
use Rattle.stored.specs.Words.{word, word_at, pair_number, split, words, from_complement, to_complement}

-- every entry is a byte, or has two bytes
abbrev pub Bytes : List ℕ → Type 0
Bytes bs = All (λ b. b < 256) bs

abbrev pub Numbers : List ℕ → Type 0
Numbers ns = All (λ n. n < 65536) ns

pub word_split : (n : ℕ) → n < 65536 → word (n % 256) (n / 256 % 256) ≡ n
word_split n h = omega arith

pub split_word : (a b : ℕ) → a < 256 → b < 256 → split (word a b) ≡ a ∷ b ∷ []
split_word a b p q = grind arith

pub to_from_complement : (n : ℕ) → n < 65536 → to_complement (from_complement n) ≡ n
to_from_complement n h = grind (arith, nat_tests)

-- two's complement is how a machine reads a signed number of 16 bits
pub complement_is : (n : ℕ) → to_z w16 n ≡ from_complement n
complement_is n = let e : 65536 - suc n ≡ 65535 - n = omega arith in ap (λ k. cond (ltb n 32768) (pos n) (negsuc k)) e

-- a number that is not below zero, in two's complement and back
pub from_to_complement_pos : (n : ℕ) → n < 32768 → from_complement (to_complement (pos n)) ≡ pos n
from_to_complement_pos n h = cond-true (ltb n 32768) _ _ (lt-ltb n 32768 h)

-- a number below zero, in two's complement and back
pub from_to_complement_neg : (n : ℕ) → n < 32768 → from_complement (to_complement (negsuc n)) ≡ negsuc n
from_to_complement_neg n h =
    let e : 65535 - (65535 - n) ≡ n = omega arith in
    cond-false (ltb (65535 - n) 32768) _ _ (le-ltb (65535 - n) 32768 (omega arith)) ∙ ap negsuc e

-- as many numbers as pairs of bytes
pub length_words : (bs : List ℕ) → length (words bs) ≡ length bs / 2
length_words [] = refl
length_words (a ∷ []) = refl
length_words (a ∷ b ∷ bs) = let rest = length_words bs in omega arith

-- each number is the pair of bytes in its place
pub words_at : (bs : List ℕ) (n i d : ℕ) → length bs ≡ 2 * n → i < n → get_or (words bs) i d ≡ word_at bs i
words_at [] n i d e h = absurd (omega arith)
words_at (a ∷ []) n i d e h = absurd (omega arith)
words_at (a ∷ b ∷ bs) n zero d e h = refl
words_at (a ∷ b ∷ bs) zero (suc i) d e h = absurd (omega arith)
words_at (a ∷ b ∷ bs) (suc n) (suc i) d e h =
    let p : 2 * suc i ≡ suc (suc (2 * i)) = omega arith in
    let q : 2 * suc i + 1 ≡ suc (suc (2 * i + 1)) = omega arith in
    words_at bs n i d (omega arith) (omega arith) ∙ sym (ap (λ k. word (get_or (a ∷ b ∷ bs) k 0) (get_or (a ∷ b ∷ bs) (2 * suc i + 1) 0)) p ∙ ap (λ k. word (get_or bs (2 * i) 0) (get_or (a ∷ b ∷ bs) k 0)) q)

-- the library's chunks of two, read as numbers
pub words_chunks : (bs : List ℕ) → map pair_number (first_chunks 2 (length bs / 2) bs) ≡ words bs
words_chunks [] = refl
words_chunks (a ∷ []) = refl
words_chunks (a ∷ b ∷ bs) =
    let half : length (a ∷ b ∷ bs) / 2 ≡ suc (length bs / 2) = omega arith in
    rw (half, words_chunks bs)

-- bytes in pairs, put together and taken apart
pub split_words : (bs : List ℕ) → length bs % 2 ≡ 0 → Bytes bs → flat_map split (words bs) ≡ bs
split_words [] even all = refl
split_words (a ∷ []) even all = absurd (omega arith)
split_words (a ∷ b ∷ bs) even all =
    let here = split_word a b (all 0 0 (omega arith)) (all 1 0 (omega arith)) in
    let rest = split_words bs (omega arith) (λ k d h. all (suc (suc k)) d (omega arith)) in
    cc

-- numbers below 65,536, taken apart and put together
pub words_split : (ns : List ℕ) → Numbers ns → words (flat_map split ns) ≡ ns
words_split [] all = refl
words_split (n ∷ ns) all =
    let here = word_split n (all 0 0 (omega arith)) in
    let rest = words_split ns (All-tail (λ x. x < 65536) n ns all) in
    cc

-- twice as many bytes as numbers
pub length_split : (ns : List ℕ) → length (flat_map split ns) ≡ 2 * length ns
length_split [] = refl
length_split (n ∷ ns) = let go = length_split ns in omega arith

pub words_below : (bs : List ℕ) → Bytes bs → Numbers (words bs)
words_below [] all = All-nil (λ x. x < 65536)
words_below (a ∷ []) all = All-nil (λ x. x < 65536)
words_below (a ∷ b ∷ bs) all =
    let low = all 0 0 (omega arith) in
    let high = all 1 0 (omega arith) in
    All-cons (λ x. x < 65536) (word a b) (words bs) (omega arith) (words_below bs (λ k d h. all (suc (suc k)) d (omega arith)))
