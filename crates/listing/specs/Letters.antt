-- The letter that names a measure. Assumes nothing.
use Rattle.std.specs.Prelude.{ℕ, cond, List, [], ◌∷◌, Ok, Err, Result, ◌==◌}
use Rattle.reading.specs.declared.refusals.Refusal.{Refusal}
use Rattle.reading.specs.declared.refusals.Refusal.TheVariants.{UnknownLetter}
use Rattle.listing.specs.declared.letters.Letter.{Letter}
use Rattle.listing.specs.declared.letters.Letter.TheVariants.{Absolute, Squared, Largest}

-- the letters A, S and L as bytes
abbrev pub letter_byte : Letter → ℕ
letter_byte Absolute = 65
letter_byte Squared = 83
letter_byte Largest = 76

-- the measure that a byte names
abbrev pub letter_named : ℕ → Result Letter Refusal
letter_named b = cond (b == 65) (Ok Absolute) (cond (b == 83) (Ok Squared) (cond (b == 76) (Ok Largest) (Err (UnknownLetter b))))

-- the measure that the first byte names
abbrev pub letter_of : List ℕ → Result Letter Refusal
letter_of [] = Err (UnknownLetter 0)
letter_of (b ∷ bs) = letter_named b
