use Rattle.std.proofs.Common.{rules}
use Rattle.listing.proofs.Pages.{printed_next}
use Rattle.listing.proofs.page.Page.put_number.Goals as goal

pub loop-byte-preserved : goal.loop-byte-preserved
loop-byte-preserved g c = search (printed_next, rules)
