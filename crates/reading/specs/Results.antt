-- Answers that are granted or declined. Assumes nothing.
use Rattle.std.specs.Prelude.{Ok, Err, Result}

-- go on with what was granted; pass a refusal up as it is
abbrev pub then : {X Y E : Type 0} → Result X E → (X → Result Y E) → Result Y E
then (Ok x) f = f x
then (Err e) f = Err e
