-- Readings of words.
use Rattle.std.specs.Prelude.{Result, Ok, Err}
use Rattle.schedule_calls.specs.declared.reason.Reason.{Reason}

-- a reading and then another one of what it gave; the first reason ends them
infixl 10 ◌>>=◌
abbrev pub ◌>>=◌ : {X Y : Type 0} → Result X Reason → (X → Result Y Reason) → Result Y Reason
(Ok x) >>= f = f x
(Err reason) >>= f = Err reason

-- a reading of what was meant, as it is told
abbrev pub read_as : {X Y : Type 0} → (Y → X) → Result Y Reason → Result X Reason
read_as view (Ok y) = Ok (view y)
read_as view (Err reason) = Err reason
