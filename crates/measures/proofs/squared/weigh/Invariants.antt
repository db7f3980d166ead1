use Rattle.std.proofs.Common.{◌≡◌, take}
use Rattle.measures.specs.Squared.{weighted_places}
use Rattle.measures.specs.Values.{whole_weight}
use Rattle.measures.proofs.squared.weigh.Given as goal

abbrev pub invariant-loop-row : goal.invariant-loop-row
invariant-loop-row l = (l.whole ≡ whole_weight (take l.row-index l.rows)) × (l.sum ≡ weighted_places (take l.row-index l.rows))
