-- A desk with a new register.
use Rattle.std.specs.Prelude.{◌≡◌, ℕ, List, length, map, replicate}
use Rattle.kinds.specs.Stamps.{Order}
use Rattle.model.specs.declared.refusal.Refusal.TheVariants.{WrongTables}
use Rattle.office.specs.Images.{opening_row}
use Rattle.office.specs.Store.{free_outcome}
use Rattle.registrar.specs.declared.registrar.Registrar.{Registrar}
use Rattle.schedule_calls.specs.declared.reason.Fault.TheVariants.{NoCall, Memory}
use Rattle.schedule_desk.specs.declared.failure.Failure.{Failure}
use Rattle.schedule_desk.specs.declared.failure.Failure.TheVariants.{Refused, Ended}
use Rattle.station.specs.Station.{Image}

-- the numbers of a registrar of so many records, of which nothing was asked yet
abbrev pub founded_numbers : ℕ → Registrar
founded_numbers n = record { records = n; cycle = 0; tickets = 0; oldest = 0; waiting = 0; outcomes = 0; jobs = 0 }

-- the image that was never published
abbrev pub opening_image : {S R : Type 0} → Order S → List R → Image S R
opening_image o values = record { records = length values; number = 0; rows = map (opening_row o) values; outcomes = replicate 32 free_outcome; count = 0 }

-- a founding is refused by 1, or no memory is left
abbrev pub IsNoFounding : Failure → Type 0
IsNoFounding (Refused r) = r ≡ WrongTables
IsNoFounding (Ended Memory) = Unit {0}
IsNoFounding (Ended (NoCall reason)) = ⊥
