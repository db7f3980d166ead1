-- How large departures can be. Assumes nothing.
use Rattle.std.specs.Prelude.{ℕ, ◌*◌}
use Rattle.reading.specs.Scale.{limit}

-- the most that a single reading departs by, under any measure
abbrev pub one_most : ℕ
one_most = 4_000_000_000_000

-- the most that as many readings as may be held depart by
abbrev pub all_most : ℕ
all_most = limit * one_most
