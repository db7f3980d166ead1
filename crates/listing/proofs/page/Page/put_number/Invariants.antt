use Rattle.std.proofs.Common.{take}
use Rattle.listing.specs.Pages.{Printed}
use Rattle.listing.proofs.page.Page.put_number.Given as goal

-- the bytes before the one at the index stand on the page
abbrev pub invariant-loop-byte : goal.invariant-loop-byte
invariant-loop-byte g l = Printed l.initial.self (take l.byte-index l.byte-items) l.self
