-- What every run keeps between the registrar, its images, the jobs and the daybook.
use Rattle.std.proofs.Common.{◌≡◌, ℕ, zero, suc, ◌<◌, ◌≤◌, Bool, true, false, cond, eqb, List, map, length, take, Some, None, Option, sym, refl, ap, ◌∙◌, subst, arith}
use Rattle.std.specs.Option.{option_map}
use Rattle.std.specs.List.{AllByRecursion, slice_get}
use Rattle.std.proofs.lemmas.Bool.{eqb-true, eq-eqb}
use Rattle.kinds.specs.Stamps.{Order, Kind, Lawful}
use Rattle.model.specs.declared.entry.Entry.{Entry}
use Rattle.model.specs.Rows.{Stood}
use Rattle.station.specs.Station.{Image, Work, Acted, Station, work_of, put_back, first_write}
use Rattle.registrar.specs.Deciding.{Waiting}
use Rattle.registrar.specs.Registry.{registry_sized, queue_of}
use Rattle.law.specs.Daybook.{AcceptedJob, Line, LaidBy, Daybook, changed, journal_of}
use Rattle.law.specs.Runs.{Desk, with_job}
use Rattle.law.specs.Account.{at_opening, FinalOrder}
use Rattle.law.proofs.Members.{In}
use Rattle.law.proofs.Views.{leaf, Distinct}
use Rattle.law.proofs.Stations.{entries_count, work_back, count_back}
use Rattle.law.proofs.Plays.{Origin, Sound}
use Rattle.law.proofs.History.{Since}
use Rattle.law.proofs.Jobs.{EntryOk, JobOk, row_stood}
use Rattle.law.proofs.AtStations.{Kept}
use Rattle.law.proofs.Acceptance.{top_at, RowsOk}
use Rattle.law.proofs.Journals.{PlacedBelow}

module _ {S R : Type 0} (o : Order S) (values : List R) where
  abbrev pub shown_by : Option (Image S R) → ℕ → Option (Stood S R)
  shown_by None x = None
  shown_by (Some i) x = option_map row_stood (slice_get i.rows x)

  -- what image n shows at x, where image 0 is the opening
  abbrev pub shown_in : List (Image S R) → ℕ → ℕ → Option (Stood S R)
  shown_in images zero x = at_opening o values x
  shown_in images (suc n) x = shown_by (slice_get images n) x

-- an image as it was published: its number, and its tables of the register's size
pub record ImageOk {S R : Type 0} (values : List R) (n : ℕ) (i : Image S R) : Type 0 where
  pub numbered : i.number ≡ suc n
  pub rows : length i.rows ≡ length values

abbrev pub laid_of : {S R : Type 0} → Waiting S R → LaidBy S R
laid_of w = record { ticket = w.ticket; leaf = leaf w.entries }

module _ {S R : Type 0} (k : Kind S) (values : List R) where
  -- a job that waits keeps what it kept at its station
  pub record WaitingOk (jobs : List (AcceptedJob S R)) (top : ℕ → S) (images : List (Image S R)) (cycle : ℕ) (w : Waiting S R) : Type 0 where
    pub image : ℕ
    pub stands : image ≤ cycle
    pub entries : AllByRecursion (EntryOk k.order values jobs top (shown_in k.order values images image) w.lower w.upper) w.entries
    pub distinct : Distinct w.entries
    pub inside : AllByRecursion (λ (e : Entry S R). e.number < length values) w.entries
    pub few : length w.entries ≤ 16

  pub record StationOk (jobs : List (AcceptedJob S R)) (top : ℕ → S) (images : List (Image S R)) (cycle : ℕ) (t : Station S R) : Type 0 where
    pub count : t.job.count ≤ length t.sheet
    pub good : JobOk k values jobs top (shown_in k.order values images) cycle (work_of t)

  pub record Inv (d : Desk S R) (b : Daybook S R) : Type 0 where
    pub sized : registry_sized d.registry ≡ true
    pub records : d.registry.own.records ≡ length values
    pub opening : d.registry.opening ≡ values
    pub cycle : length d.images ≡ d.registry.own.cycle
    pub images_ok : (n : ℕ) (i : Image S R) → slice_get d.images n ≡ Some i → ImageOk values n i
    pub sound : Sound k.order values b.accepted
    pub rows_ok : RowsOk k.order values b.accepted (shown_in k.order values d.images (length d.images)) d.registry.rows d.registry.firsts
    pub image_origin : (n : ℕ) → n ≤ length d.images → (x : ℕ) (w : Stood S R) → shown_in k.order values d.images n x ≡ Some w → Origin k.order values b.accepted x w
    pub image_since : (n : ℕ) (i : Image S R) → slice_get d.images n ≡ Some i → (x : ℕ) → Since k.order b.accepted x (top_at k.order d.registry.rows x) (shown_in k.order values d.images n x) (option_map row_stood (slice_get i.rows x)) (first_write i x)
    pub job_ok : (j : ℕ) (t : Station S R) → d.jobs j ≡ Some t → StationOk b.accepted (top_at k.order d.registry.rows) d.images (length d.images) t
    pub job_leaf : (j : ℕ) (t : Station S R) → d.jobs j ≡ Some t → b.leaves j ≡ leaf (work_of t).entries
    pub queue_ok : (w : Waiting S R) → In w (queue_of d.registry) → WaitingOk b.accepted (top_at k.order d.registry.rows) d.images (length d.images) w
    pub waiting : b.waiting ≡ map laid_of (queue_of d.registry)
    pub journal : FinalOrder k.order b.accepted (journal_of d.registry)
    pub placed : PlacedBelow d.registry.own.jobs (take d.registry.own.jobs d.registry.heads)

  -- another job at one place, with its leaf
  module _ (d : Desk S R) (b : Daybook S R) (h : Inv d b) (j : ℕ) (p : Option (Station S R)) (leaves : ℕ → List (Line S R)) where
    pub reseat : ((t : Station S R) → p ≡ Some t → StationOk b.accepted (top_at k.order d.registry.rows) d.images (length d.images) t) → ((t : Station S R) → p ≡ Some t → leaves j ≡ leaf (work_of t).entries) → ((n : ℕ) → eqb j n ≡ false → leaves n ≡ b.leaves n) → Inv (with_job d j p) (record { leaves = leaves; waiting = b.waiting; accepted = b.accepted })
    reseat here-ok here-leaf others =
        record {
          sized = h.sized;
          records = h.records;
          opening = h.opening;
          cycle = h.cycle;
          images_ok = h.images_ok;
          sound = h.sound;
          rows_ok = h.rows_ok;
          image_origin = h.image_origin;
          image_since = h.image_since;
          job_ok = λ n t. by_ok n t (eqb j n);
          job_leaf = λ n t. by_leaf n t (eqb j n) refl;
          queue_ok = h.queue_ok;
          waiting = h.waiting;
          journal = h.journal;
          placed = h.placed;
        }
      where
        by_ok : (n : ℕ) (t : Station S R) (q : Bool) → cond q p (d.jobs n) ≡ Some t → StationOk b.accepted (top_at k.order d.registry.rows) d.images (length d.images) t
        by_ok n t true e = here-ok t e
        by_ok n t false e = h.job_ok n t e

        by_leaf : (n : ℕ) (t : Station S R) (q : Bool) → eqb j n ≡ q → cond q p (d.jobs n) ≡ Some t → leaves n ≡ leaf (work_of t).entries
        by_leaf n t true a e = subst (λ (z : ℕ). leaves z ≡ leaf (work_of t).entries) (eqb-true j n a) (here-leaf t e)
        by_leaf n t false a e = others n a ∙ h.job_leaf n t e

pub leaf_here : {A : Type 0} (f : ℕ → A) (j : ℕ) (a : A) → changed f j a j ≡ a
leaf_here f j a = ap (λ b. cond b a (f j)) (eq-eqb j j refl)

pub leaf_there : {A : Type 0} (f : ℕ → A) (j : ℕ) (a : A) (n : ℕ) → eqb j n ≡ false → changed f j a n ≡ f n
leaf_there f j a n e = ap (λ b. cond b a (f n)) e

-- A call at a station: the job goes back to its sheet with what it keeps.
module _ {S R : Type 0} (k : Kind S) (laws : Lawful k) (values : List R) (jobs : List (AcceptedJob S R)) (top : ℕ → S) (images : List (Image S R)) (cycle : ℕ) where
  pub record Back (t : Station S R) (w : Work S R) : Type 0 where
    pub ok : StationOk k values jobs top images cycle (put_back t w)
    pub works : work_of (put_back t w) ≡ w

  pub back : {A : Type 0} (t : Station S R) (a : Acted S R A) → length t.sheet ≡ 16 → StationOk k values jobs top images cycle t → Kept k laws values jobs top (shown_in k.order values images) cycle (work_of t) a → Back t a.work
  back t a n s h =
      let c = entries_count t s.count in
      let g = h.grows in
      let f = h.keeps.few in
      let q = s.count in
      let works : work_of (put_back t a.work) ≡ a.work = work_back t a.work q (omega arith) (omega arith) in
      record {
        ok = record {
          count = count_back t a.work q (omega arith) (omega arith);
          good = subst (λ (z : Work S R). JobOk k values jobs top (shown_in k.order values images) cycle z) (sym works) h.keeps;
        };
        works = works;
      }
