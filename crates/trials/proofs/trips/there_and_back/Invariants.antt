use Rattle.std.proofs.Common.{◌≤◌}
use Rattle.trials.proofs.trips.there_and_back.Given as goal

abbrev pub invariant-loop-turn : goal.invariant-loop-turn
invariant-loop-turn g l = l.returned ≤ l.turn
