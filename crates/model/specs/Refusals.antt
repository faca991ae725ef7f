-- The refusals, their numbers, and checks that run in order.
use Rattle.std.specs.Prelude.{ℕ, Bool, true, false, List, ◌++◌, codes, decimal, Some, Option}
use Rattle.model.specs.declared.refusal.Refusal.{Refusal}
use Rattle.model.specs.declared.refusal.Refusal.TheVariants.{WrongTables, JobShut, OtherImage, NotNextImage, NoSuchRecord, SheetFull, NoRoom, QueueFull, NoneWaiting, JournalFull, OutcomesFull, NotInImage, CountEnded}

abbrev pub refusal_number : Refusal → ℕ
refusal_number WrongTables = 1
refusal_number JobShut = 2
refusal_number OtherImage = 3
refusal_number NotNextImage = 4
refusal_number NoSuchRecord = 5
refusal_number SheetFull = 6
refusal_number NoRoom = 7
refusal_number QueueFull = 8
refusal_number NoneWaiting = 9
refusal_number JournalFull = 10
refusal_number OutcomesFull = 11
refusal_number NotInImage = 12
refusal_number CountEnded = 13

-- a refusal as it is printed
abbrev pub refusal_text : Refusal → List ℕ
refusal_text r = codes "refused " ++ decimal (refusal_number r)

-- the first check that fails refuses the call
abbrev pub refused_if : Bool → Refusal → Option Refusal → Option Refusal
refused_if true r rest = Some r
refused_if false r rest = rest
