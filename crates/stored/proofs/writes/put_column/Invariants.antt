use Rattle.std.proofs.Common.{◌≡◌, ◌*◌, take}
use Rattle.reading.specs.Lists.{put_from}
use Rattle.stored.specs.Forms.{column_bytes}
use Rattle.stored.proofs.writes.put_column.Given as goal

abbrev pub invariant-loop-i : goal.invariant-loop-i
invariant-loop-i l = l.into ≡ put_from (2 * l.at) (column_bytes l.column (take l.i l.row-items)) l.initial.into
