-- The rows of a table in stored bytes. Assumes nothing.
use Rattle.std.specs.Prelude.{List, ℕ, map}
use Rattle.std.specs.List.{zip}
use Rattle.reading.specs.declared.scale.Reading.{Reading}
use Rattle.stored.specs.Words.{pair_number, from_complement}

-- the reading that the pair of its value and the pair of its weight are
abbrev pub row_from : List ℕ → List ℕ → Reading
row_from value weight = record { value = from_complement (pair_number value); weight = pair_number weight }

-- the rows of two columns, a value beside each weight
abbrev pub rows_from : List (List ℕ) → List (List ℕ) → List Reading
rows_from values weights = map (λ pair. row_from pair.0 pair.1) (zip values weights)
