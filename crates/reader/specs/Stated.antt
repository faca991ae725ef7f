-- What an archive states, and what its reader answers.
use Rattle.std.specs.Prelude.{ℕ, ◌==◌, cond, List, length, Ok, Err, Result}
use Rattle.kinds.specs.Stamps.{Order}
use Rattle.kinds.specs.Values.{RecordKind}
use Rattle.law.specs.Daybook.{AcceptedJob}
use Rattle.archive.specs.declared.fault.Fault.{Fault}
use Rattle.archive.specs.declared.fault.Fault.TheVariants.{SpaceWrong}
use Rattle.archive.specs.Faults.{onward}
use Rattle.archive.specs.Rule.{read_archive}
use Rattle.archive.specs.Journal.{stated_opening, stated_journal}

-- the opening values, and the jobs in final order
pub record Stated (S R : Type 0) : Type 0 where
  pub opening : List R
  pub journal : List (AcceptedJob S R)

module _ {S R : Type 0} (o : Order S) (k : RecordKind R) where
  abbrev pub stated : List ℕ → Stated S R
  stated bs = record { opening = stated_opening o k bs; journal = stated_journal o k bs }

  -- the first fault of heading, directory, opening values and blocks, or what is stated
  abbrev pub read_stated : List ℕ → Result (Stated S R) Fault
  read_stated bs = onward (read_archive o k bs) (λ _. Ok (stated bs))

module _ {R : Type 0} where
  -- a space that is to be filled with some values has room for just these
  abbrev pub fill_answer : List R → List R → Result (Unit {0}) Fault
  fill_answer vs space = cond (length space == length vs) (Ok tt) (Err SpaceWrong)

  abbrev pub filled : List R → List R → List R
  filled vs space = cond (length space == length vs) vs space
