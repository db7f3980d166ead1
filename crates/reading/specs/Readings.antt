-- Lists of readings. Assumes nothing.
use Rattle.std.specs.Prelude.{List}
use Rattle.reading.specs.declared.list.Readings.{Readings}
use Rattle.reading.specs.declared.scale.Reading.{Reading}

-- the readings of a list, in their order
abbrev pub rows_of : Readings → List Reading
rows_of list = list.rows.now
