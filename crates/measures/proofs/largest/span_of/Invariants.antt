use Rattle.std.proofs.Common.{◌≡◌, take}
use Rattle.measures.proofs.Loops.{high_end, low_end}
use Rattle.measures.proofs.largest.span_of.Given as goal

abbrev pub invariant-loop-row : goal.invariant-loop-row
invariant-loop-row l = (l.low ≡ low_end (take l.row-index l.rows)) × (l.high ≡ high_end (take l.row-index l.rows))
