-- What is laid down is accepted, and states what was laid down, stamps and values up to counting alike.
use Rattle.std.specs.Prelude.{◌≡◌, ℕ, List, [], ◌∷◌, length, Ok}
use Rattle.kinds.specs.Forms.{Form, Alike}
use Rattle.kinds.specs.Stamps.{Order, Kind, Same}
use Rattle.kinds.specs.Values.{RecordKind}
use Rattle.registrar.specs.Registry.{Registry, found}
use Rattle.law.specs.Daybook.{Look, Put, AcceptedJob, journal_of}
use Rattle.law.specs.Runs.{Call, run, start}
use Rattle.archive.specs.Rule.{inspected}
use Rattle.archive.specs.Journal.{archive_bytes, stated_opening, stated_journal}
use Rattle.readback.specs.Sound.{Sound}

-- two lists of one length, each member to the one at its place
abbrev pub Each : {A B : Type 0} → (A → B → Type 0) → List A → List B → Type 0
Each P [] [] = Unit {0}
Each P [] (y ∷ ys) = ⊥
Each P (x ∷ xs) [] = ⊥
Each P (x ∷ xs) (y ∷ ys) = P x y × Each P xs ys

module _ {S R : Type 0} (o : Order S) (f : Form R) where
  -- the same record, and a stamp and a value that count alike
  pub record AlikeLook (l m : Look S R) : Type 0 where
    pub number : l.number ≡ m.number
    pub stamp : Same o l.saw.stamp m.saw.stamp
    pub value : Alike f l.saw.value m.saw.value

module _ {R : Type 0} (f : Form R) where
  pub record AlikePut (p q : Put R) : Type 0 where
    pub number : p.number ≡ q.number
    pub value : Alike f p.value q.value

module _ {S R : Type 0} (o : Order S) (f : Form R) where
  pub record AlikeJob (a b : AcceptedJob S R) : Type 0 where
    pub stamp : Same o a.stamp b.stamp
    pub ticket : a.ticket ≡ b.ticket
    pub looks : Each (AlikeLook o f) a.looks b.looks
    pub puts : Each (AlikePut f) a.puts b.puts

module _ {S R : Type 0} (o : Order S) (k : RecordKind R) where
  -- bytes that are accepted, and state these values and these jobs
  pub record States (bs : List ℕ) (values : List R) (jobs : List (AcceptedJob S R)) : Type 0 where
    pub accepted : inspected o k bs ≡ Ok (length jobs)
    pub opening : Each (Alike k.form) (stated_opening o k bs) values
    pub journal : Each (AlikeJob o k.form) (stated_journal o k bs) jobs

  abbrev pub ReadsBack : List R → List (AcceptedJob S R) → Type 0
  ReadsBack values jobs = States (archive_bytes o k values jobs) values jobs

  -- whatever is sound reads back
  abbrev pub SoundReadsBack : Type 0
  SoundReadsBack = (values : List R) (jobs : List (AcceptedJob S R)) → Sound o k.form values jobs → ReadsBack values jobs

module _ {S R : Type 0} (k : Kind S) (r : RecordKind R) where
  -- whichever run led to a registry: the bytes state its opening values and its journal
  abbrev pub RunStatedBy : List ℕ → Registry S R → Type 0
  RunStatedBy bs g =
      (values : List R) (brought : Registry S R) → (found k.order values brought).answer ≡ Ok tt → (calls : List (Call S R)) →
      (run k calls (start k values brought)).desk.registry ≡ g → States k.order r bs g.opening (journal_of g)

  -- what is laid down of a registry does
  abbrev pub RunReadsBack : Registry S R → Type 0
  RunReadsBack g = RunStatedBy (archive_bytes k.order r g.opening (journal_of g)) g
