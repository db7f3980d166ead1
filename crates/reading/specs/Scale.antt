-- The scale of readings, and how many may be held. Assumes nothing.
use Rattle.std.specs.Prelude.{◌≡◌, ℕ, Bool, true, cond, ◌&&◌, All, List, ℤ, pos, negsuc, Ok, Err, Result, int_le, nat_le}
use Rattle.std.specs.List.{take_while}
use Rattle.reading.specs.declared.refusals.Refusal.{Refusal}
use Rattle.reading.specs.declared.refusals.Refusal.TheVariants.{ValueOffScale, WeightOffScale}
use Rattle.reading.specs.declared.scale.Reading.{Reading}

-- the most readings that a profile or a stored profile holds
abbrev pub limit : ℕ
limit = 1024

-- a whole number from -30,000 to 30,000, which values and levels are
abbrev pub is_level : ℤ → Bool
is_level v = int_le (negsuc 29999) v && int_le v (pos 30000)

-- a number that is a level
abbrev pub Level : ℤ → Type 0
Level v = is_level v ≡ true

-- a weight from 1 to 1,000
abbrev pub is_weight : ℕ → Bool
is_weight w = nat_le 1 w && nat_le w 1000

-- a reading whose value and weight are on the scale
abbrev pub on_scale : Reading → Bool
on_scale r = is_level r.value && is_weight r.weight

-- a reading that is on the scale
abbrev pub OnScale : Reading → Type 0
OnScale r = on_scale r ≡ true

-- a reading that is to have place p, or what is wrong with it: the value first
abbrev pub admitted : Reading → ℕ → Result Reading Refusal
admitted r p = cond (is_level r.value) (cond (is_weight r.weight) (Ok r) (Err (WeightOffScale p))) (Err (ValueOffScale p))

-- every reading of a list is on the scale
abbrev pub Scaled : List Reading → Type 0
Scaled rs = All OnScale rs

-- the readings before the first that is off the scale
abbrev pub scaled_front : List Reading → List Reading
scaled_front rs = take_while on_scale rs
