-- The law of runs: the stamp order accounts for all that was accepted.
use Rattle.std.specs.Prelude.{◌≡◌, ℕ, cond, List, [], ◌∷◌, Some, None, Ok, filter, Option, ◌==◌}
use mathlib.Core.List.{Permᴰ}
use Rattle.std.specs.Option.{option_map}
use Rattle.std.specs.List.{AllByRecursion, slice_get}
use Rattle.kinds.specs.Stamps.{Order, Kind}
use Rattle.kinds.specs.Bounds.{same, NotAfter}
use Rattle.model.specs.Rows.{Stood, stood}
use Rattle.registrar.specs.Registry.{Registry, found}
use Rattle.law.specs.Daybook.{Look, Put, AcceptedJob, Daybook, journal_of}
use Rattle.law.specs.Runs.{Call, run, start}

-- what stands at each record, if the register has it
abbrev pub StandingAt : Type 0 → Type 0 → Type 0
StandingAt S R = ℕ → Option (Stood S R)

-- the value that a job puts at a record, if any
abbrev pub put_of : {R : Type 0} → ℕ → List (Put R) → Option R
put_of x [] = None
put_of x (p ∷ ps) = cond (x == p.number) (Some p.value) (put_of x ps)

module _ {S R : Type 0} where
  -- the play starts from the opening values, every write stamp least
  abbrev pub at_opening : Order S → List R → StandingAt S R
  at_opening o values x = option_map (λ v. record { value = v; stamp = o.least }) (slice_get values x)

  abbrev pub under : S → Option R → Option (Stood S R) → Option (Stood S R)
  under s None w = w
  under s (Some v) w = Some (record { value = v; stamp = s })

  -- the puts of a job, entered under its stamp
  abbrev pub after_job : AcceptedJob S R → StandingAt S R → StandingAt S R
  after_job a standing x = under a.stamp (put_of x a.puts) (standing x)

  -- where the play of some jobs in turn ends
  abbrev pub played : StandingAt S R → List (AcceptedJob S R) → StandingAt S R
  played standing [] = standing
  played standing (a ∷ order) = played (after_job a standing) order

  -- every noted look shows the value and the write stamp standing just before its job
  abbrev pub BorneOut : StandingAt S R → List (AcceptedJob S R) → Type 0
  BorneOut standing [] = Unit {0}
  BorneOut standing (a ∷ order) = AllByRecursion (λ (l : Look S R). standing l.number ≡ Some l.saw) a.looks × BorneOut (after_job a standing) order

module _ {S R : Type 0} (o : Order S) where
  -- no stamp falls
  abbrev pub NeverFalls : List (AcceptedJob S R) → Type 0
  NeverFalls [] = Unit {0}
  NeverFalls (a ∷ order) = AllByRecursion (λ (b : AcceptedJob S R). NotAfter o a.stamp b.stamp) order × NeverFalls order

  -- a serial order of some jobs: each of them once, and no stamp falls
  pub record SerialOrder (jobs order : List (AcceptedJob S R)) : Type 0 where
    pub same_jobs : Permᴰ jobs order
    pub never_falls : NeverFalls order

  -- the final order: serial, and equal stamps by acceptance
  pub record FinalOrder (accepted order : List (AcceptedJob S R)) : Type 0 where
    pub serial : SerialOrder accepted order
    pub in_turn : (s : S) → filter (λ (a : AcceptedJob S R). same o s a.stamp) order ≡ filter (λ (a : AcceptedJob S R). same o s a.stamp) accepted

  -- what the registrar's tables and the daybook owe each other
  pub record Accounted (values : List R) (registry : Registry S R) (book : Daybook S R) : Type 0 where
    pub borne_out : (order : List (AcceptedJob S R)) → SerialOrder book.accepted order → BorneOut (at_opening o values) order
    pub ends : (order : List (AcceptedJob S R)) → SerialOrder book.accepted order → (x : ℕ) → played (at_opening o values) order x ≡ option_map stood (slice_get registry.rows x)
    pub journal : FinalOrder book.accepted (journal_of registry)
    pub opening : registry.opening ≡ values

-- After every run of a registrar that was founded, whatever tables were brought.
abbrev pub StampOrderAccounts : {S : Type 0} → Kind S → Type 0 → Type 0
StampOrderAccounts {S} k R =
    (values : List R) (brought : Registry S R) → (found k.order values brought).answer ≡ Ok tt → (calls : List (Call S R)) →
    let r = run k calls (start k values brought) in Accounted k.order values r.desk.registry r.book
