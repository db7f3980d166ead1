use Rattle.std.proofs.Common.{arith}
use Rattle.measures.proofs.Loops.{ends_more}
use Rattle.measures.proofs.Signs.{back}
use Rattle.measures.proofs.largest.span_of.Goals as goal

pub loop-row-preserved : goal.loop-row-preserved
loop-row-preserved c = grind (arith, back, ends_more)
