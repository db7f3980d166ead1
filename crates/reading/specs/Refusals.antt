-- The table of refusals: of each its number, its place and where it is checked. Assumes nothing.
use Rattle.std.specs.Prelude.{ℕ, List, ◌++◌, codes, decimal}
use Rattle.reading.specs.declared.refusals.Refusal.{Refusal}
use Rattle.reading.specs.declared.refusals.Refusal.TheVariants.{ValueOffScale, WeightOffScale, ProfileFull, PrefixAboveHeld, PlaceOutsidePrefix, NothingHeld, TooLittleRoom, UnknownLetter, WrongLength, SizesDiffer, TooMany}
use Rattle.reading.specs.declared.refusals.Site.{Site}
use Rattle.reading.specs.declared.refusals.Site.TheVariants.{AtReading, AtProfile, AtSupplied, AtLetter, AtStored}

-- the number under which a refusal is known
abbrev pub number_of : Refusal → ℕ
number_of (ValueOffScale p) = 1
number_of (WeightOffScale p) = 2
number_of (ProfileFull n) = 3
number_of (PrefixAboveHeld k) = 4
number_of (PlaceOutsidePrefix p) = 5
number_of NothingHeld = 6
number_of (TooLittleRoom n) = 7
number_of (UnknownLetter b) = 8
number_of (WrongLength n) = 9
number_of SizesDiffer = 10
number_of (TooMany n) = 11

-- the place that a refusal points at
abbrev pub place_of : Refusal → ℕ
place_of (ValueOffScale p) = p
place_of (WeightOffScale p) = p
place_of (ProfileFull n) = n
place_of (PrefixAboveHeld k) = k
place_of (PlaceOutsidePrefix p) = p
place_of NothingHeld = 0
place_of (TooLittleRoom n) = n
place_of (UnknownLetter b) = b
place_of (WrongLength n) = n
place_of SizesDiffer = 0
place_of (TooMany n) = n

-- where a refusal is checked
abbrev pub site_of : Refusal → Site
site_of (ValueOffScale p) = AtReading
site_of (WeightOffScale p) = AtReading
site_of (ProfileFull n) = AtProfile
site_of (PrefixAboveHeld k) = AtProfile
site_of (PlaceOutsidePrefix p) = AtProfile
site_of NothingHeld = AtProfile
site_of (TooLittleRoom n) = AtSupplied
site_of (UnknownLetter b) = AtLetter
site_of (WrongLength n) = AtStored
site_of SizesDiffer = AtStored
site_of (TooMany n) = AtStored

-- where a refusal is checked, as a number
abbrev pub site_number : Site → ℕ
site_number AtReading = 1
site_number AtProfile = 2
site_number AtSupplied = 3
site_number AtLetter = 4
site_number AtStored = 5

-- a refusal as text
abbrev pub refusal_text : Refusal → List ℕ
refusal_text e = codes "refused " ++ (decimal (number_of e) ++ (codes " " ++ decimal (place_of e)))
