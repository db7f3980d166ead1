-- What a measure answers, and where it answers nothing. Assumes nothing.
use Rattle.std.specs.Prelude.{ℕ, Bool, ◌&&◌, List, length, ℤ, Option, nat_le}
use Rattle.std.specs.Bool.{then_some}
use Rattle.reading.specs.declared.scale.Reading.{Reading}
use Rattle.reading.specs.Scale.{is_level, limit}
use Rattle.isotonic.specs.Bounds.{all_most}

-- there is a departure of a list within the limit, at a number that is a level
abbrev pub has_departure : List Reading → ℤ → Bool
has_departure rs v = nat_le (length rs) limit && is_level v

-- there is a combination of two departures, neither more than any list that may be held departs by
abbrev pub has_combination : ℕ → ℕ → Bool
has_combination x y = nat_le x all_most && nat_le y all_most

-- there is a preferred level of a list within the limit that has a reading
abbrev pub has_preferred : List Reading → Bool
has_preferred rs = nat_le 1 (length rs) && nat_le (length rs) limit

-- what is answered for a departure, and so for the other two
abbrev pub departure_answer : (List Reading → ℤ → ℕ) → List Reading → ℤ → Option ℕ
departure_answer dep rs v = then_some (has_departure rs v) (dep rs v)

abbrev pub combination_answer : (ℕ → ℕ → ℕ) → ℕ → ℕ → Option ℕ
combination_answer comb x y = then_some (has_combination x y) (comb x y)

abbrev pub preferred_answer : (List Reading → ℤ) → List Reading → Option ℤ
preferred_answer pref rs = then_some (has_preferred rs) (pref rs)
