use Rattle.std.proofs.Common.{◌≡◌, ◌+◌, Ok}
use Rattle.reading.specs.Results.{then}
use Rattle.stored.specs.Forms.{all_admitted}
use Rattle.stored.specs.Tables.{table_rows}
use Rattle.stored.proofs.Rows.{ahead}
use Rattle.stored.proofs.table.Table.admitted.Given as goal

-- the rows that are ahead decide what is answered
abbrev pub invariant-loop-i : goal.invariant-loop-i
invariant-loop-i l =
    let rows = table_rows l.self in
    then (all_admitted (l.i-iterator.count + 1) (ahead l.i-iterator)) (λ _. Ok rows) ≡ all_admitted 1 rows
