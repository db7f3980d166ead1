use Rattle.std.proofs.Common.{◌-◌, ◌≤◌}
use Rattle.isotonic.specs.Places.{top}
use Rattle.measures.proofs.Counts.{median_place}
use Rattle.measures.proofs.absolute.median.Given as goal

-- the median lies from `low` to `high`
abbrev pub invariant-loop-low : goal.invariant-loop-low
invariant-loop-low l =
    let place = median_place l.sample.list.rows.now in
    record { from : l.low ≤ place; to : place ≤ l.high; within : l.high ≤ top }

abbrev pub decreases-loop-low : goal.decreases-loop-low
decreases-loop-low l = l.high - l.low
