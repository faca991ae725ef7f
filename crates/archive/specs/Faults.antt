-- Faults of an archive: each its number, and the place of its first byte, if it stands at one.
use Rattle.std.specs.Prelude.{ℕ, Some, None, Ok, Err, Option, Result}
use Rattle.archive.specs.declared.fault.Fault.{Fault}
use Rattle.archive.specs.declared.fault.Fault.TheVariants.{HeadingWrong, PairWrong, BlockWrong, ValueWrong, SpaceWrong, NotBorneOut}

pub record Listed : Type 0 where
  pub number : ℕ
  pub place : Option ℕ

abbrev pub fault_listed : Fault → Listed
fault_listed HeadingWrong = record { number = 14; place = Some 0 }
fault_listed (PairWrong at) = record { number = 15; place = Some at }
fault_listed (BlockWrong at) = record { number = 16; place = Some at }
fault_listed (ValueWrong at) = record { number = 17; place = Some at }
fault_listed SpaceWrong = record { number = 18; place = None }
fault_listed (NotBorneOut at) = record { number = 19; place = Some at }

-- reading on from what was read; a fault ends it
abbrev pub onward : {A B : Type 0} → Result A Fault → (A → Result B Fault) → Result B Fault
onward (Ok x) f = f x
onward (Err e) f = Err e
