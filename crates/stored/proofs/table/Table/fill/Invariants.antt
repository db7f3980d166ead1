use Rattle.std.proofs.Common.{◌≡◌, ◌+◌, ◌≤◌, length}
use Rattle.reading.specs.Lists.{put_from}
use Rattle.stored.specs.Tables.{table_rows}
use Rattle.stored.proofs.Rows.{ahead}
use Rattle.stored.proofs.table.Table.fill.Given as goal

-- the rows that are ahead fit, and with them the list ends as it is to
abbrev pub invariant-loop-i : goal.invariant-loop-i
invariant-loop-i l =
    let w = l.i-iterator in
    record {
      room : w.count + length (ahead w) ≤ length l.into;
      rest : put_from w.count (ahead w) l.into ≡ put_from 0 (table_rows l.self) l.initial.into;
    }
