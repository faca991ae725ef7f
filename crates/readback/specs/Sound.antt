-- What the opening values and the jobs that are laid down owe each other.
use Rattle.std.specs.Prelude.{◌≡◌, ◌<◌, ◌≤◌, List, [], ◌∷◌, length, Some, Option}
use Rattle.std.specs.List.{AllByRecursion}
use Rattle.kinds.specs.Forms.{Form, Alike}
use Rattle.kinds.specs.Stamps.{Order, Same}
use Rattle.model.specs.Rows.{Stood}
use Rattle.law.specs.Daybook.{Look, AcceptedJob}
use Rattle.law.specs.Account.{StandingAt, at_opening, after_job, NeverFalls}
use Rattle.law.specs.Promises.{NeatJob}

-- Records and jobs within the limits, each job neat under a ticket of four bytes, and no stamp falls.
pub record Orderly {S R : Type 0} (o : Order S) (values : List R) (jobs : List (AcceptedJob S R)) : Type 0 where
  pub some_records : 1 ≤ length values
  pub few_records : length values ≤ 1024
  pub few_jobs : length jobs ≤ 4096
  pub neat : AllByRecursion (NeatJob o (length values)) jobs
  pub ticketed : AllByRecursion (λ (a : AcceptedJob S R). a.ticket < 4294967296) jobs
  pub never_falls : NeverFalls o jobs

module _ {S R : Type 0} (o : Order S) (f : Form R) where
  -- what stands at a record counts alike with what a look saw
  pub record StandsAlike (standing : Option (Stood S R)) (saw : Stood S R) : Type 0 where
    pub stood : Stood S R
    pub there : standing ≡ Some stood
    pub stamp : Same o saw.stamp stood.stamp
    pub value : Alike f saw.value stood.value

  -- every noted look shows a value and a write stamp that count alike with what stands just before its job
  abbrev pub BorneOutAlike : StandingAt S R → List (AcceptedJob S R) → Type 0
  BorneOutAlike standing [] = Unit {0}
  BorneOutAlike standing (a ∷ order) = AllByRecursion (λ (l : Look S R). StandsAlike (standing l.number) l.saw) a.looks × BorneOutAlike (after_job a standing) order

  -- orderly, and every look is borne out by the play
  pub record Sound (values : List R) (jobs : List (AcceptedJob S R)) : Type 0 where
    pub orderly : Orderly o values jobs
    pub borne_out : BorneOutAlike (at_opening o values) jobs
