-- The stored form of a list of readings, both ways. Assumes nothing.
use Rattle.std.specs.Prelude.{ℕ, ◌+◌, ◌*◌, cond, List, [], ◌∷◌, ◌++◌, map, length, take, drop, ℤ, Ok, Err, Result, ◌==◌, nat_le}
use Rattle.std.specs.List.{flat_map, zip}
use Rattle.reading.specs.declared.refusals.Refusal.{Refusal}
use Rattle.reading.specs.declared.refusals.Refusal.TheVariants.{WrongLength, SizesDiffer, TooMany}
use Rattle.reading.specs.declared.scale.Reading.{Reading}
use Rattle.reading.specs.Results.{then}
use Rattle.reading.specs.Scale.{limit, admitted}
use Rattle.stored.specs.declared.columns.Column.{Column}
use Rattle.stored.specs.declared.columns.Column.TheVariants.{Values, Weights}
use Rattle.stored.specs.Words.{word, split, words, from_complement, to_complement}

-- a value beside each weight
abbrev pub paired : List ℤ → List ℕ → List Reading
paired vs ws = map (λ pair. record { value = pair.0; weight = pair.1 }) (zip vs ws)

-- the n values and n weights that are stored behind the sizes, whether on the scale or not
abbrev pub stored_rows : ℕ → List ℕ → List Reading
stored_rows n rest = paired (map from_complement (words (take (2 * n) rest))) (words (drop (2 * n) rest))

-- the readings, if all are on the scale; else what is wrong with the first that is not, the first reading having place p
abbrev pub all_admitted : ℕ → List Reading → Result (List Reading) Refusal
all_admitted p [] = Ok []
all_admitted p (r ∷ rs) = then (admitted r p) (λ _. then (all_admitted (p + 1) rs) (λ xs. Ok (r ∷ xs)))

-- the readings behind two sizes
abbrev pub sized : ℕ → ℕ → List ℕ → Result (List Reading) Refusal
sized m n rest =
    cond (m == n)
    (cond (nat_le m limit) (cond (length rest == 4 * m) (all_admitted 1 (stored_rows m rest)) (Err (WrongLength (4 + length rest)))) (Err (TooMany m)))
    (Err SizesDiffer)

-- the readings that stored bytes hold, or what is wrong with the bytes
abbrev pub decoded : List ℕ → Result (List Reading) Refusal
decoded [] = Err (WrongLength 0)
decoded (a ∷ []) = Err (WrongLength 1)
decoded (a ∷ b ∷ []) = Err (WrongLength 2)
decoded (a ∷ b ∷ c ∷ []) = Err (WrongLength 3)
decoded (a ∷ b ∷ c ∷ d ∷ rest) = sized (word a b) (word c d) rest

-- what one column stores of a reading
abbrev pub cell_of : Column → Reading → ℕ
cell_of Values r = to_complement r.value
cell_of Weights r = r.weight

-- a column as bytes
abbrev pub column_bytes : Column → List Reading → List ℕ
column_bytes column rs = flat_map (λ r. split (cell_of column r)) rs

-- the stored bytes of readings
abbrev pub encoded : List Reading → List ℕ
encoded rs = split (length rs) ++ (split (length rs) ++ (column_bytes Values rs ++ column_bytes Weights rs))

-- the stored bytes of as many readings as can be stored
abbrev pub storable : List Reading → Result (List ℕ) Refusal
storable rs = cond (nat_le (length rs) limit) (Ok (encoded rs)) (Err (TooMany (length rs)))
