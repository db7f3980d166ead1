-- The bytes of a listing. Assumes nothing.
use Rattle.std.specs.Prelude.{ℕ, List, [], ◌∷◌, ◌++◌, length, drop, Ok, codes, decimal, Result}
use Rattle.reading.specs.declared.refusals.Refusal.{Refusal}
use Rattle.reading.specs.Results.{then}
use Rattle.stored.specs.Forms.{decoded}
use Rattle.listing.specs.declared.letters.Letter.{Letter}
use Rattle.listing.specs.Letters.{letter_byte, letter_of}

-- the first line: the letter of the measure and how many readings there are
unfoldable pub heading : Letter → ℕ → List ℕ
heading letter n = codes "measure " ++ ((letter_byte letter ∷ []) ++ (codes " readings " ++ (decimal n ++ (10 ∷ []))))

-- the listing of a letter and the stored profile behind it, or what is wrong with them
abbrev pub listing_of : List ℕ → Result (List ℕ) Refusal
listing_of input = then (letter_of input) (λ letter. then (decoded (drop 1 input)) (λ rs. Ok (heading letter (length rs))))
