-- Numbers as two bytes, the low one first. Assumes nothing.
use Rattle.std.specs.Prelude.{ℕ, ◌+◌, ◌-◌, ◌*◌, ◌/◌, ◌%◌, cond, List, [], ◌∷◌, ℤ, pos, negsuc, nat_lt, slice_index}

-- the number that two bytes are
abbrev pub word : ℕ → ℕ → ℕ
word low high = low + high * 256

-- the number at index i of bytes taken two by two
abbrev pub word_at : List ℕ → ℕ → ℕ
word_at bs i = word (slice_index bs (2 * i)) (slice_index bs (2 * i + 1))

-- the number that a pair of bytes is
abbrev pub pair_number : List ℕ → ℕ
pair_number pair = word (slice_index pair 0) (slice_index pair 1)

-- the two bytes of a number below 65,536
abbrev pub split : ℕ → List ℕ
split n = (n % 256) ∷ (n / 256 % 256) ∷ []

-- bytes taken as numbers, two by two; an odd byte at the end is none
abbrev pub words : List ℕ → List ℕ
words [] = []
words (a ∷ []) = []
words (a ∷ b ∷ bs) = word a b ∷ words bs

-- a number below 65,536 read as two's complement
abbrev pub from_complement : ℕ → ℤ
from_complement n = cond (nat_lt n 32768) (pos n) (negsuc (65535 - n))

-- a whole number from -32,768 to 32,767 in two's complement
abbrev pub to_complement : ℤ → ℕ
to_complement (pos n) = n
to_complement (negsuc n) = 65535 - n
