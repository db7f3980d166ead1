-- What a listing goes by, how long its heading is, and the heading put down text by text.
use Rattle.std.proofs.Common.{◌≡◌, ℕ, ◌+◌, ◌-◌, ◌^◌, ◌<◌, ◌≤◌, List, [], ◌∷◌, ◌++◌, length, take, drop, Ok, codes, decimal, refl, arith}
use Rattle.std.proofs.lemmas.Fmt.{length-decimal-le}
use Rattle.std.proofs.lemmas.List.{length-append, take_rest}
use Rattle.reading.specs.Lists.{put_from}
use Rattle.reading.specs.Results.{then}
use Rattle.reading.proofs.Puts.{put_then}
use Rattle.stored.specs.Forms.{decoded}
use Rattle.listing.specs.declared.letters.Letter.{Letter}
use Rattle.listing.specs.Letters.{letter_byte, letter_of}
use Rattle.listing.specs.Text.{heading, listing_of}

-- it goes by the count of the readings, which the check of the stored profile answers
pub listing_counted :
    (input : List ℕ) → listing_of input ≡ then (letter_of input) (λ letter. then (then (decoded (take (length input - 1) (drop 1 input))) (λ rs. Ok (length rs))) (λ n. Ok (heading letter n)))
listing_counted input = let rest = take_rest input 1 in grind arith

-- how long a heading is, which a word can count
pub length_heading : (letter : Letter) (n : ℕ) → n < 2 ^ 64 → (length (heading letter n) ≡ 20 + length (decimal n)) × (length (heading letter n) ≤ 40)
unfolding heading
length_heading letter n h = grind (arith, length-append {A = ℕ}, length-decimal-le 20 n)

-- the texts of a heading put down one behind the other
pub put_heading :
    (letter : Letter) (n m : ℕ) (out : List ℕ) → m + 20 + length (decimal n) ≤ length out
    → put_from m (heading letter n) out ≡ put_from (m + 19 + length (decimal n)) (10 ∷ []) (put_from (m + 19) (decimal n) (put_from (m + 9) (codes " readings ") (put_from (m + 8) (letter_byte letter ∷ []) (put_from m (codes "measure ") out))))
unfolding heading
put_heading letter n m out room =
    let named = codes "measure " ++ letter_byte letter ∷ [] in
    let front = named ++ codes " readings " in
    let one = put_then out m (codes "measure ") (letter_byte letter ∷ []) (m + 8) refl (omega arith) in
    let two = put_then out m named (codes " readings ") (m + 9) refl (omega arith) in
    let three = put_then out m front (decimal n) (m + 19) refl (omega arith) in
    let four = put_then out m (front ++ decimal n) (10 ∷ []) (m + 19 + length (decimal n)) (omega arith) (omega arith) in
    cc
