-- Bounded lists: the slice beneath one, and how many entries stand at its front. Assumes nothing.
use Rattle.std.specs.Prelude.{◌≡◌, ℕ, List, take}
use Rattle.std.specs.Borrow.{MutBor}
use Rattle.reading.specs.declared.slots.Bounded.{Bounded}

-- everything in the slice beneath: the entries, and then what the caller left there
abbrev pub beneath : {T : Type 0} → Bounded T → List T
beneath list = list.slots.now

-- how many entries there are
abbrev pub count_of : {T : Type 0} → Bounded T → ℕ
count_of list = list.count

-- the entries, in the order in which they were taken
abbrev pub entries_of : {T : Type 0} → Bounded T → List T
entries_of list = take list.count list.slots.now

-- the slice beneath is the one that a reference lends
abbrev pub IsOver : {T : Type 0} → Bounded T → MutBor (List T) → Type 0
IsOver list slots = list.slots.ghost_name ≡ slots.ghost_name

-- the slice beneath stays the one that was lent
abbrev pub StaysOver : {T : Type 0} → Bounded T → Bounded T → Type 0
StaysOver old new = new.slots.ghost_name ≡ old.slots.ghost_name
