-- Parts of lists, and what a supplied list holds after a call. Assumes nothing.
use Rattle.std.specs.Prelude.{ℕ, zero, suc, ◌+◌, ◌-◌, ◌^◌, min, cond, List, ◌++◌, length, take, drop, None, Ok, Err, Option, Result, nat_le}
use Rattle.std.specs.List.{slice_get}
use Rattle.reading.specs.declared.refusals.Refusal.{Refusal}
use Rattle.reading.specs.declared.refusals.Refusal.TheVariants.{TooLittleRoom}
use Rattle.reading.specs.Results.{then}

-- the entry at a place, counted from 1, if there is one
abbrev pub at_place : {X : Type 0} → List X → ℕ → Option X
at_place xs zero = None
at_place xs (suc i) = slice_get xs i

-- the entries at places s to t, counted from 1
abbrev pub stretch : {X : Type 0} → List X → ℕ → ℕ → List X
stretch xs s t = drop (s - 1) (take t xs)

-- whether n entries or bytes fit into so much room: their count, or the count needed
abbrev pub fitted : ℕ → ℕ → Result ℕ Refusal
fitted n room = cond (nat_le n room) (Ok n) (Err (TooLittleRoom n))

-- whether n entries more fit behind so many: the count then, or the count needed, as far as a machine word can tell it
abbrev pub grown : ℕ → ℕ → ℕ → Result ℕ Refusal
grown count n room = cond (nat_le (count + n) room) (Ok (count + n)) (Err (TooLittleRoom (min (count + n) (2 ^ 64 - 1))))

-- a list with its entries from a place on replaced by others, where there is room for all of them
abbrev pub put_from : {X : Type 0} → ℕ → List X → List X → List X
put_from n xs out = cond (nat_le (n + length xs) (length out)) (take n out ++ (xs ++ drop (n + length xs) out)) out

-- what a call answers that is to write the entries it was granted, or is declined
abbrev pub delivered : {X : Type 0} → Result (List X) Refusal → List X → Result ℕ Refusal
delivered given out = then given (λ xs. fitted (length xs) (length out))

-- what the supplied list holds after that call
abbrev pub filled : {X : Type 0} → Result (List X) Refusal → List X → List X
filled (Ok xs) out = put_from 0 xs out
filled (Err e) out = out

-- the count of a list after a call that answers the new one, or is declined
abbrev pub count_after : Result ℕ Refusal → ℕ → ℕ
count_after (Ok n) old = n
count_after (Err e) old = old
