-- The journal of every run is sound.
use mathlib.Core.List.Permᴰ
use Rattle.std.proofs.Common.{◌≡◌, ℕ, ◌<◌, ◌≤◌, List, [], ◌∷◌, length, take, Some, Ok, sym, refl, ap, ◌∙◌, subst, arith}
use Rattle.std.specs.Option.{option_map}
use Rattle.std.specs.List.{AllByRecursion, slice_get}
use Rattle.std.proofs.lemmas.List.{length-take, length-map}
use Rattle.kinds.specs.Forms.{Form}
use Rattle.kinds.specs.Stamps.{Order, Kind, Lawful}
use Rattle.model.specs.Rows.{stood}
use Rattle.registrar.specs.Registry.{Registry, found}
use Rattle.law.specs.Daybook.{Look, AcceptedJob, Daybook, job_at, journal_of}
use Rattle.law.specs.Account.{StandingAt, at_opening, after_job, played, BorneOut}
use Rattle.law.specs.Promises.{NeatJob}
use Rattle.law.specs.Runs.{Desk, Call, run, start}
use Rattle.law.proofs.Members.{in_all, in_arranged}
use Rattle.law.proofs.Sizes.{sizes}
use Rattle.law.proofs.Invariant.{Inv}
use Rattle.law.proofs.EveryRun.{run_inv, founded_inv, accounted, accounts}
use Rattle.law.proofs.Keeping.{Keeps, every_run_keeps}
use Rattle.law.proofs.LeanOn.{promises}
use Rattle.readback.specs.Sound.{Orderly, StandsAlike, BorneOutAlike, Sound}
use Rattle.readback.proofs.BackNames.{every}
use Rattle.readback.proofs.Tickets.{Counted, run_counted}

-- what is borne out by contents is borne out up to counting alike
borne_alike : {S R : Type 0} (o : Order S) (f : Form R) (js : List (AcceptedJob S R)) (standing : StandingAt S R) → BorneOut standing js → BorneOutAlike o f standing js
borne_alike o f [] standing h = tt
borne_alike {S} {R} o f (a ∷ js) standing h = (
  every (λ (l : Look S R). standing l.number ≡ Some l.saw) (λ (l : Look S R). StandsAlike o f (standing l.number) l.saw) (λ l e. record { stood = l.saw; there = e; stamp = refl; value = refl }) a.looks h.0,
  borne_alike o f js (after_job a standing) h.1,
)

module _ {S R : Type 0} (k : Kind S) (laws : Lawful k) (values : List R) (d : Desk S R) (b : Daybook S R) (h : Inv k values d b) (q : Keeps k.order values d.registry b.accepted) (counted : Counted d.registry) where
  few : length d.registry.heads ≤ 4096 → length (journal_of d.registry) ≤ 4096
  few l =
      let m = length-map (take d.registry.own.jobs d.registry.heads) (job_at d.registry.lines) in
      let t = length-take d.registry.own.jobs d.registry.heads in
      omega arith

  orderly_journal : Orderly k.order d.registry.opening (journal_of d.registry)
  orderly_journal =
      let z = sizes d.registry h.sized in
      let n1 : 1 ≤ d.registry.own.records = z.some in
      let n2 : d.registry.own.records ≤ 1024 = z.most in
      let o : length d.registry.opening ≡ d.registry.own.records = z.opening in
      record {
        some_records = omega arith;
        few_records = omega arith;
        few_jobs = few z.heads;
        neat = subst (λ (n : ℕ). AllByRecursion (NeatJob k.order n) (journal_of d.registry)) (sym o) (promises k laws values d b h q).jobs;
        ticketed = in_all (λ (a : AcceptedJob S R). a.ticket < 4294967296) (journal_of d.registry)
            (λ a m. let t = q.taken a (in_arranged (Permᴰ.symm h.journal.serial.same_jobs) m) in let u : a.ticket ≤ d.registry.own.tickets = t.1 in omega arith);
        never_falls = h.journal.serial.never_falls;
      }

  sound_journal : (f : Form R) → Sound k.order f d.registry.opening (journal_of d.registry)
  sound_journal f =
      let a = accounted k laws values d b h in
      record {
        orderly = orderly_journal;
        borne_out = borne_alike k.order f (journal_of d.registry) (at_opening k.order d.registry.opening)
            (subst (λ (vs : List R). BorneOut (at_opening k.order vs) (journal_of d.registry)) (sym h.opening) (a.borne_out (journal_of d.registry) h.journal.serial));
      }

pub runs_sound : {S R : Type 0} (k : Kind S) → Lawful k → (f : Form R) (values : List R) (brought : Registry S R) → (found k.order values brought).answer ≡ Ok tt → (calls : List (Call S R))
    → Sound k.order f (run k calls (start k values brought)).desk.registry.opening (journal_of (run k calls (start k values brought)).desk.registry)
runs_sound k laws f values brought e calls =
    sound_journal k laws values _ _ (run_inv k laws values calls (start k values brought) (founded_inv k laws values brought e)) (every_run_keeps k laws values brought e calls)
    (run_counted k calls (start k values brought) (omega arith)) f

-- the play of the journal ends at the registrar's values and stamps, and the opening values are as many as the records
module _ {S R : Type 0} (k : Kind S) (laws : Lawful k) (values : List R) (brought : Registry S R) (e : (found k.order values brought).answer ≡ Ok tt) (calls : List (Call S R)) where
  abbrev left_by : Registry S R
  left_by = (run k calls (start k values brought)).desk.registry

  pub run_ends : (x : ℕ) → played (at_opening k.order left_by.opening) (journal_of left_by) x ≡ option_map stood (slice_get left_by.rows x)
  run_ends x =
      let a = accounts k laws R values brought e calls in
      ap (λ (vs : List R). played (at_opening k.order vs) (journal_of left_by) x) a.opening ∙ a.ends (journal_of left_by) a.journal.serial x

  pub run_opening : length left_by.opening ≡ left_by.own.records
  run_opening = (sizes left_by (run_inv k laws values calls (start k values brought) (founded_inv k laws values brought e)).sized).opening
