-- What a call leaves, put together from the registrar's numbers and the tables that were handed in.
use Rattle.std.specs.Prelude.{◌≡◌, ℕ, ◌*◌, ◌≤◌, List, length, Ok, Err, Option, Result}
use Rattle.std.specs.Borrow.{MutBor}
use Rattle.model.specs.declared.entry.Entry.{Entry}
use Rattle.model.specs.declared.row.Row.{Row}
use Rattle.model.specs.declared.verdict.Outcome.{Outcome}
use Rattle.model.specs.declared.verdict.Verdict.{Verdict}
use Rattle.model.specs.declared.verdict.Verdict.TheVariants.{Accepted, Overtaken, Gone, NoPlace}
use Rattle.model.specs.declared.image.Image.{Image as Heard}
use Rattle.model.specs.declared.image.ImageRow.{ImageRow}
use Rattle.model.specs.declared.refusal.Refusal.{Refusal}
use Rattle.registrar.specs.declared.queue.Submission.{Submission}
use Rattle.registrar.specs.declared.registrar.Registrar.{Registrar}
use Rattle.registrar.specs.declared.journal.Head.{Head}
use Rattle.registrar.specs.declared.bundle.Tables.{Tables}
use Rattle.registrar.specs.declared.publish.ImageHead.{ImageHead}
use Rattle.registrar.specs.declared.ticket.Ticket.{Ticket}
use Rattle.station.specs.declared.job.Job.{Job}
use Rattle.station.specs.Station.{Image, Station}
use Rattle.registrar.specs.Deciding.{Waiting}
use Rattle.registrar.specs.Registry.{Registry, Settled, Published, with_own}

-- the eight tables of a bundle at a call's return, in their order
abbrev pub Left : Type 0 → Type 0 → Type 0
Left S R =
    MutBor (List (Row S R)) × (MutBor (List (Option S)) × (MutBor (List R) × (MutBor (List (Submission S)) × (MutBor (List (Entry S R)) × (MutBor (List (Outcome S))
    × (MutBor (List (Head S)) × (MutBor (List (Entry S R)) × Unit {0})))))))

module _ {S R : Type 0} where
  -- the registry of a registrar's numbers and eight tables
  abbrev pub registry_of : Registrar → List (Row S R) → List (Option S) → List R → List (Submission S) → List (Entry S R) → List (Outcome S) → List (Head S) → List (Entry S R) → Registry S R
  registry_of own rows firsts opening queue queued outcomes heads lines =
      record { own = own; rows = rows; firsts = firsts; opening = opening; queue = queue; queued = queued; outcomes = outcomes; heads = heads; lines = lines }

  -- the same with the tables as they are handed in
  abbrev pub registry_in : Registrar → Tables S R → Registry S R
  registry_in own t = registry_of own t.rows.now t.firsts.now t.opening.now t.queue.now t.queued.now t.outcomes.now t.heads.now t.lines.now

  -- the same with the tables as a call leaves them
  abbrev pub registry_left : Registrar → Left S R → Registry S R
  registry_left own t =
      registry_of own t.0.now t.1.0.now t.1.1.0.now t.1.1.1.0.now t.1.1.1.1.0.now t.1.1.1.1.1.0.now
      t.1.1.1.1.1.1.0.now t.1.1.1.1.1.1.1.0.now

-- every table has its length, one by one
pub record Lengths {S R : Type 0} (n : ℕ) (g : Registry S R) : Type 0 where
  pub some : 1 ≤ n
  pub most : n ≤ 1024
  pub rows : length g.rows ≡ n
  pub firsts : length g.firsts ≡ n
  pub opening : length g.opening ≡ n
  pub queue : length g.queue ≡ 16
  pub queued : length g.queued ≡ 256
  pub outcomes : length g.outcomes ≡ 32
  pub some_head : 1 ≤ length g.heads
  pub heads : length g.heads ≤ 4096
  pub lines : length g.lines ≡ 16 * length g.heads

-- what a call answers, and the registry and the image that it leaves
abbrev pub settled_as : {S R A : Type 0} → Result A Refusal → Registry S R → Settled S R A
settled_as r g = record { answer = r; registry = g }

abbrev pub published_as : {S R : Type 0} → Result ℕ Refusal → Registry S R → Image S R → Published S R
published_as r g i = record { answer = r; registry = g; image = i }

-- an image of its own numbers and its two tables, and an image as a station has heard it
abbrev pub image_with : {S R : Type 0} → ImageHead → List (ImageRow S R) → List (Outcome S) → Image S R
image_with h rows outcomes = record { records = h.records; number = h.number; rows = rows; outcomes = outcomes; count = h.count }

abbrev pub image_heard : {S R : Type 0} → Heard S R → Image S R
image_heard i = record { records = i.records; number = i.number; rows = i.rows.now; outcomes = i.outcomes.now; count = i.count }

-- a refusal hands the ticket back
abbrev pub or_ticket : {A : Type 0} → Ticket → Result A Refusal → Result A (Refusal × Ticket)
or_ticket t (Ok a) = Ok a
or_ticket t (Err r) = Err (r, t)

-- a submission with its entries
abbrev pub waiting_with : {S R : Type 0} → Submission S → List (Entry S R) → Waiting S R
waiting_with q entries = record { ticket = q.ticket; lower = q.lower; upper = q.upper; entries = entries }

-- what submit answers and leaves: a ticket, or the very job again
pub record Handed (S R : Type 0) : Type 0 where
  pub answer : Result Ticket (Refusal × Job S)
  pub registry : Registry S R

abbrev pub handed_as : {S R : Type 0} → Result Ticket (Refusal × Job S) → Registry S R → Handed S R
handed_as r g = record { answer = r; registry = g }

abbrev pub or_job : {S : Type 0} → Job S → Result ℕ Refusal → Result Ticket (Refusal × Job S)
or_job j (Ok n) = Ok (record { number = n })
or_job j (Err r) = Err (r, j)

abbrev pub handed_in : {S R : Type 0} → Job S → Settled S R ℕ → Handed S R
handed_in j s = record { answer = or_job j s.answer; registry = s.registry }

-- a job with its sheet
abbrev pub station_of : {S R : Type 0} → Job S → List (Entry S R) → Station S R
station_of j sheet = record { job = j; sheet = sheet }

-- what a verdict comes to: with a stamp where it accepts, else as it is
abbrev pub by_stamp : {S A : Type 0} → Verdict S → A → (S → A) → A
by_stamp (Accepted s) a f = f s
by_stamp Overtaken a f = a
by_stamp Gone a f = a
by_stamp NoPlace a f = a

abbrev pub head_of : {S : Type 0} → S → ℕ → ℕ → ℕ → Head S
head_of s ticket place count = record { stamp = s; ticket = ticket; place = place; count = count }

-- the numbers before a founding
abbrev pub no_numbers : Registrar
no_numbers = record { records = 0; cycle = 0; tickets = 0; oldest = 0; waiting = 0; outcomes = 0; jobs = 0 }

-- what found answers and leaves: a registrar, and its tables with it
abbrev pub founded_as : {S R : Type 0} → Result Registrar Refusal → Registry S R → Settled S R (Unit {0})
founded_as (Ok own) g = record { answer = Ok tt; registry = with_own g own }
founded_as (Err r) g = record { answer = Err r; registry = g }
