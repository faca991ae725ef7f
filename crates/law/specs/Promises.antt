-- What users lean on, after every run.
use Rattle.std.specs.Prelude.{◌≡◌, ℕ, ◌<◌, ◌≤◌, ◌≢◌, List, [], ◌∷◌, map, length, Some, None, Ok}
use Rattle.std.specs.List.{AllByRecursion, slice_get}
use Rattle.kinds.specs.Stamps.{Order, Kind, Before}
use Rattle.model.specs.declared.row.Row.{Row}
use Rattle.model.specs.Rows.{write_of, older}
use Rattle.station.specs.declared.job.Standing.TheVariants.{Live}
use Rattle.station.specs.Station.{Station, work_of}
use Rattle.registrar.specs.Registry.{Registry, found}
use Rattle.law.specs.Daybook.{Look, Put, AcceptedJob, journal_of}
use Rattle.law.specs.Runs.{Desk, Call, run, start}

-- each member with each that stands behind it
abbrev pub Pairwise : {A : Type 0} → (A → A → Type 0) → List A → Type 0
Pairwise R [] = Unit {0}
Pairwise R (x ∷ xs) = AllByRecursion (R x) xs × Pairwise R xs

module _ {S R : Type 0} where
  abbrev pub look_numbers : List (Look S R) → List ℕ
  look_numbers ls = map (λ (l : Look S R). l.number) ls

module _ {R : Type 0} where
  abbrev pub put_numbers : List (Put R) → List ℕ
  put_numbers ps = map (λ (p : Put R). p.number) ps

-- a number stands in a list
abbrev pub StandsIn : List ℕ → ℕ → Type 0
StandsIn ns x = (i : ℕ) × (slice_get ns i ≡ Some x)

-- a job of the journal: its stamp after the least, a ticket, and few records of the register, none twice
pub record NeatJob {S R : Type 0} (o : Order S) (records : ℕ) (a : AcceptedJob S R) : Type 0 where
  pub risen : Before o o.least a.stamp
  pub ticketed : 1 ≤ a.ticket
  pub looks_apart : Pairwise ◌≢◌ (look_numbers a.looks)
  pub puts_apart : Pairwise ◌≢◌ (put_numbers a.puts)
  pub named : List ℕ
  pub few : length named ≤ 16
  pub looks_named : AllByRecursion (StandsIn named) (look_numbers a.looks)
  pub puts_named : AllByRecursion (StandsIn named) (put_numbers a.puts)
  pub inside : AllByRecursion (λ x. x < records) named

-- versions, the newest first, each before the one that follows it
abbrev pub Rising : {S : Type 0} → Order S → S → List S → Type 0
Rising o newer [] = Unit {0}
Rising o newer (v ∷ vs) = Before o v newer × Rising o v vs

pub record KeptPromises {S R : Type 0} (k : Kind S) (d : Desk S R) : Type 0 where
  pub jobs : AllByRecursion (NeatJob k.order d.registry.own.records) (journal_of d.registry)
  pub tickets_apart : Pairwise (λ (a b : AcceptedJob S R). a.ticket ≢ b.ticket) (journal_of d.registry)
  pub versions : (x : ℕ) (r : Row S R) → slice_get d.registry.rows x ≡ Some r → Rising k.order (write_of r) (older r)
  -- a live job with an entry has a place; a fresh one has the widest bounds
  pub places : (j : ℕ) (t : Station S R) → d.jobs j ≡ Some t → t.job.standing ≡ Live → ((work_of t).entries ≢ []) → (s : S) × (k.pick t.job.lower t.job.upper ≡ Some s)
  pub fresh : (j : ℕ) (t : Station S R) → d.jobs j ≡ Some t → t.job.standing ≡ Live → k.pick t.job.lower t.job.upper ≡ None → (s : S) → Before k.order k.order.least s → ⊥

abbrev pub PromisesKept : {S : Type 0} → Kind S → Type 0 → Type 0
PromisesKept {S} k R =
    (values : List R) (brought : Registry S R) → (found k.order values brought).answer ≡ Ok tt → (calls : List (Call S R)) →
    KeptPromises k (run k calls (start k values brought)).desk
