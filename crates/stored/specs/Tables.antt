-- Tables in stored bytes. Assumes nothing.
use Rattle.std.specs.Prelude.{List}
use Rattle.reading.specs.declared.scale.Reading.{Reading}
use Rattle.stored.specs.declared.table.Table.{Table}
use Rattle.stored.specs.Rows.{rows_from}

-- the rows of a table, on the scale or not
abbrev pub table_rows : Table → List Reading
table_rows table = rows_from table.values.now table.weights.now
