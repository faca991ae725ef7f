-- Runs: any list of calls on one registrar after its founding, its jobs and their sheets.
use Rattle.std.specs.Prelude.{ℕ, zero, suc, Bool, true, false, cond, List, [], ◌∷◌, ◌++◌, Some, None, Ok, Err, Option, Result}
use Rattle.std.specs.List.{slice_get}
use Rattle.kinds.specs.Stamps.{Kind}
use Rattle.model.specs.declared.entry.Entry.{Entry}
use Rattle.model.specs.declared.image.ImageRow.{ImageRow}
use Rattle.model.specs.declared.verdict.Outcome.{Outcome}
use Rattle.model.specs.declared.verdict.Verdict.{Verdict}
use Rattle.station.specs.declared.job.Job.{Job}
use Rattle.station.specs.declared.job.Standing.{Standing}
use Rattle.model.specs.declared.refusal.Refusal.{Refusal}
use Rattle.station.specs.Station.{Image, Station, Answered, open_job, look_job, put_job, tune_job}
use Rattle.registrar.specs.Registry.{Registry, Settled, Published, founded, submit, decide, publish}
use Rattle.law.specs.Daybook.{Daybook, blank, changed, with_leaf, has_line, line_looked, line_put, laid_behind, first_taken}

-- The calls of a run. A job goes by its place, and an image by its number. Open brings the job's sheet, and publish the
-- tables of the image, with any content and of any length.
pub data Call (S R : Type 0) : Type 0 where
  opens : (job image : ℕ) → List (Entry S R) → Call S R
  looks : (job image number : ℕ) → Call S R
  puts : (job image number : ℕ) → R → Call S R
  tunes : (job image : ℕ) → Call S R
  submits : (job : ℕ) → Call S R
  decides : Call S R
  publishes : Image S R → Call S R

pub data Answer (S R : Type 0) : Type 0 where
  refused : Refusal → Answer S R
  done : Answer S R
  shown : R → Answer S R
  stands : Standing → Answer S R
  ticket : ℕ → Answer S R
  outcome : Outcome S → Answer S R
  image : ℕ → Answer S R
  no_call : Answer S R

-- the registrar, the images that it published, the first one first, and the jobs with their sheets
pub record Desk (S R : Type 0) : Type 0 where
  pub registry : Registry S R
  pub images : List (Image S R)
  pub jobs : ℕ → Option (Station S R)

pub record Next (S R : Type 0) : Type 0 where
  pub answer : Answer S R
  pub desk : Desk S R

-- the image of a number, if it was published
abbrev pub image_numbered : {S R : Type 0} → List (Image S R) → ℕ → Option (Image S R)
image_numbered images zero = None
image_numbered images (suc n) = slice_get images n

module _ {S R : Type 0} where
  abbrev pub with_job : Desk S R → ℕ → Option (Station S R) → Desk S R
  with_job d j t = record { registry = d.registry; images = d.images; jobs = changed d.jobs j t }

  -- what is given was not published, or no job stands at the place: no call of a run
  abbrev pub none_made : Desk S R → Next S R
  none_made d = record { answer = no_call; desk = d }

  abbrev pub given : Option (Image S R) → Desk S R → (Image S R → Next S R) → Next S R
  given None d f = none_made d
  given (Some i) d f = f i

  abbrev pub standing_at : Option (Station S R) → Desk S R → (Station S R → Next S R) → Next S R
  standing_at None d f = none_made d
  standing_at (Some t) d f = f t

  abbrev pub after_open : Desk S R → ℕ → List (Entry S R) → Result (Job S) Refusal → Next S R
  after_open d j sheet (Err r) = record { answer = refused r; desk = d }
  after_open d j sheet (Ok job) = record { answer = done; desk = with_job d j (Some (record { job = job; sheet = sheet })) }

  abbrev pub answer_of : {A : Type 0} → (A → Answer S R) → Result A Refusal → Answer S R
  answer_of f (Err r) = refused r
  answer_of f (Ok a) = f a

  abbrev pub after_call : {A : Type 0} → Desk S R → ℕ → (A → Answer S R) → Answered S R A → Next S R
  after_call d j f a = record { answer = answer_of f a.answer; desk = with_job d j (Some a.station) }

  -- the job is over once its ticket is answered
  abbrev pub after_submit : Desk S R → ℕ → Settled S R ℕ → Result ℕ Refusal → Next S R
  after_submit d j s (Err r) = record { answer = refused r; desk = d }
  after_submit d j s (Ok n) = record { answer = ticket n; desk = record { registry = s.registry; images = d.images; jobs = changed d.jobs j None } }

  abbrev pub after_decide : Desk S R → Settled S R (Outcome S) → Next S R
  after_decide d s = record { answer = answer_of outcome s.answer; desk = record { registry = s.registry; images = d.images; jobs = d.jobs } }

  abbrev pub after_publish : Desk S R → Published S R → Result ℕ Refusal → Next S R
  after_publish d p (Err r) = record { answer = refused r; desk = d }
  after_publish d p (Ok n) = record { answer = image n; desk = record { registry = p.registry; images = d.images ++ (p.image ∷ []); jobs = d.jobs } }

-- each call finds everything as the last one left it
module _ {S R : Type 0} (k : Kind S) where
  abbrev pub step : Desk S R → Call S R → Next S R
  step d (opens j n sheet) = given (image_numbered d.images n) d (λ i. after_open d j sheet (open_job k i))
  step d (looks j n x) = given (image_numbered d.images n) d (λ i. standing_at (d.jobs j) d (λ t. after_call d j shown (look_job k t i x)))
  step d (puts j n x v) = given (image_numbered d.images n) d (λ i. standing_at (d.jobs j) d (λ t. after_call d j (λ u. done) (put_job k t i x v)))
  step d (tunes j n) = given (image_numbered d.images n) d (λ i. standing_at (d.jobs j) d (λ t. after_call d j stands (tune_job k t i)))
  step d (submits j) = standing_at (d.jobs j) d (λ t. let s = submit d.registry t in after_submit d j s s.answer)
  step d decides = after_decide d (decide k d.registry)
  step d (publishes i) = let p = publish d.registry i in after_publish d p p.answer

-- The daybook follows the calls and their answers.
module _ {S R : Type 0} where
  abbrev pub is_done : Answer S R → Bool
  is_done (refused r) = false
  is_done done = true
  is_done (shown v) = false
  is_done (stands s) = false
  is_done (ticket n) = false
  is_done (outcome c) = false
  is_done (image n) = false
  is_done no_call = false

  abbrev pub shown_of : Answer S R → Option R
  shown_of (refused r) = None
  shown_of done = None
  shown_of (shown v) = Some v
  shown_of (stands s) = None
  shown_of (ticket n) = None
  shown_of (outcome c) = None
  shown_of (image n) = None
  shown_of no_call = None

  abbrev pub ticket_of : Answer S R → Option ℕ
  ticket_of (refused r) = None
  ticket_of done = None
  ticket_of (shown v) = None
  ticket_of (stands s) = None
  ticket_of (ticket n) = Some n
  ticket_of (outcome c) = None
  ticket_of (image n) = None
  ticket_of no_call = None

  abbrev pub verdict_of : Answer S R → Option (Verdict S)
  verdict_of (refused r) = None
  verdict_of done = None
  verdict_of (shown v) = None
  verdict_of (stands s) = None
  verdict_of (ticket n) = None
  verdict_of (outcome c) = Some c.verdict
  verdict_of (image n) = None
  verdict_of no_call = None

  -- the write stamp of a record in the image given
  abbrev pub write_in : Option (ImageRow S R) → Option S
  write_in None = None
  write_in (Some row) = Some row.write

  abbrev pub write_given : Option (Image S R) → ℕ → Option S
  write_given None x = None
  write_given (Some i) x = write_in (slice_get i.rows x)

  abbrev pub noted : Option R → Option S → ℕ → ℕ → Daybook S R → Daybook S R
  noted None s j x b = b
  noted (Some v) None j x b = b
  noted (Some v) (Some s) j x b = with_leaf b j (line_looked (has_line x (b.leaves j)) x (record { value = v; stamp = s }) (b.leaves j))

  abbrev pub laid_if : Option ℕ → ℕ → Daybook S R → Daybook S R
  laid_if None j b = b
  laid_if (Some n) j b = laid_behind b j n

  abbrev pub taken_if : Option (Verdict S) → Daybook S R → Daybook S R
  taken_if None b = b
  taken_if (Some v) b = first_taken b b.waiting v

  -- images: those published when the call was made
  abbrev pub note : List (Image S R) → Call S R → Answer S R → Daybook S R → Daybook S R
  note images (opens j n sheet) a b = cond (is_done a) (with_leaf b j []) b
  note images (looks j n x) a b = noted (shown_of a) (write_given (image_numbered images n) x) j x b
  note images (puts j n x v) a b = cond (is_done a) (with_leaf b j (line_put x v (b.leaves j))) b
  note images (tunes j n) a b = b
  note images (submits j) a b = laid_if (ticket_of a) j b
  note images decides a b = taken_if (verdict_of a) b
  note images (publishes i) a b = b

pub record Run (S R : Type 0) : Type 0 where
  pub desk : Desk S R
  pub book : Daybook S R

module _ {S R : Type 0} (k : Kind S) where
  abbrev pub next : Run S R → Call S R → Run S R
  next r c = let n = step k r.desk c in record { desk = n.desk; book = note r.desk.images c n.answer r.book }

  abbrev pub run : List (Call S R) → Run S R → Run S R
  run [] r = r
  run (c ∷ cs) r = run cs (next r c)

  -- a registrar just founded: no image, no job, a blank daybook
  abbrev pub start : List R → Registry S R → Run S R
  start values brought = record { desk = record { registry = founded k.order values brought; images = []; jobs = λ j. None }; book = blank }
