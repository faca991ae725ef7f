-- Which failures are answers.
use Rattle.std.specs.Prelude.{Result, Ok, Err}
use Rattle.model.specs.declared.refusal.Refusal.{Refusal}
use Rattle.schedule_calls.specs.declared.reason.Fault.{Fault}
use Rattle.schedule_desk.specs.declared.failure.Failure.{Failure}
use Rattle.schedule_desk.specs.declared.failure.Failure.TheVariants.{Refused, Ended}

-- a refusal is an answer, and a fault is none
abbrev pub refusal_of : Failure → Result Refusal Fault
refusal_of (Refused refusal) = Ok refusal
refusal_of (Ended fault) = Err fault
