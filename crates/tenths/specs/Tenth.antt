-- A measure of one's own: the largest distance, in whole tenths of a decibel. Assumes nothing.
use Rattle.std.specs.Prelude.{ℕ, ◌/◌, List, ℤ}
use Rattle.measures.specs.Largest.{largest_departs}
use Rattle.reading.specs.declared.scale.Reading.{Reading}

-- ten hundredths are a tenth; what is left over does not count
abbrev pub tenths_departs : List Reading → ℤ → ℕ
tenths_departs rs v = largest_departs rs v / 10
