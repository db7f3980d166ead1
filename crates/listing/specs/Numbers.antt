-- The answer of the listing in plain numbers. Assumes nothing.
use Rattle.std.specs.Prelude.{ℕ, Ok, Err, Result}
use Rattle.reading.specs.declared.refusals.Refusal.{Refusal}
use Rattle.reading.specs.Refusals.{number_of, place_of, site_number, site_of}
use Rattle.listing.specs.declared.export.Answer.{Answer}

-- a count, or a refusal with its number, its place and where it is checked
abbrev pub answer_of : Result ℕ Refusal → Answer
answer_of (Ok n) = record { written = n; place = 0; number = 0; site = 0 }
answer_of (Err e) = record { written = 0; place = place_of e; number = number_of e; site = site_number (site_of e) }
