-- What open, look, put and tune do with a job and its sheet.
use Rattle.std.specs.Prelude.{ℕ, ◌+◌, max, Bool, true, false, cond, not, ◌&&◌, ◌||◌, List, [], ◌∷◌, ◌++◌, map, length, take, is_some, Some, None, Ok, Err, Option, Result, ◌==◌, nat_le}
use Rattle.std.specs.List.{slice_get}
use Rattle.kinds.specs.Stamps.{Order, Kind}
use Rattle.kinds.specs.Bounds.{later, earlier}
use Rattle.model.specs.declared.entry.Entry.{Entry}
use Rattle.model.specs.declared.image.ImageRow.{ImageRow}
use Rattle.model.specs.declared.verdict.Outcome.{Outcome}
use Rattle.station.specs.declared.job.Job.{Job}
use Rattle.station.specs.declared.job.Standing.{Standing}
use Rattle.station.specs.declared.job.Standing.TheVariants.{Live, Shut}
use Rattle.model.specs.declared.refusal.Refusal.{Refusal}
use Rattle.model.specs.declared.refusal.Refusal.TheVariants.{WrongTables, JobShut, OtherImage, NotNextImage, NoSuchRecord, SheetFull, NoRoom}
use Rattle.model.specs.Refusals.{refused_if}
use Rattle.model.specs.Tables.{lawful_size, sized, laid}
use Rattle.model.specs.Sheets.{find, looked, put_unseen, put_on, own_value, closed, beyond}

-- an image: the number of records, its own number, a row for each record, and outcomes, of which the first `count` count
pub record Image (S R : Type 0) : Type 0 where
  pub records : ℕ
  pub number : ℕ
  pub rows : List (ImageRow S R)
  pub outcomes : List (Outcome S)
  pub count : ℕ

abbrev pub image_sized : {S R : Type 0} → Image S R → Bool
image_sized i = lawful_size i.records && (sized i.rows i.records && sized i.outcomes 32)

-- a job with its entries
pub record Work (S R : Type 0) : Type 0 where
  pub image : ℕ
  pub lower : S
  pub upper : Option S
  pub standing : Standing
  pub entries : List (Entry S R)

-- what a call answers, and the job it leaves
pub record Acted (S R A : Type 0) : Type 0 where
  pub answer : Result A Refusal
  pub work : Work S R

abbrev pub is_shut : Standing → Bool
is_shut Live = false
is_shut Shut = true

module _ {S R : Type 0} where
  abbrev pub bounded_below : Work S R → S → List (Entry S R) → Work S R
  bounded_below w lower entries = record { image = w.image; lower = lower; upper = w.upper; standing = w.standing; entries = entries }

  abbrev pub shut_down : Work S R → Work S R
  shut_down w = record { image = w.image; lower = w.lower; upper = w.upper; standing = Shut; entries = w.entries }

module _ {S R A : Type 0} where
  abbrev pub refuse : Refusal → Work S R → Acted S R A
  refuse r w = record { answer = Err r; work = w }

  abbrev pub unless : Option Refusal → Work S R → Acted S R A → Acted S R A
  unless None w a = a
  unless (Some r) w a = refuse r w

  -- refused where pick would answer none for the new bounds
  abbrev pub if_room : Option S → Work S R → Acted S R A → Acted S R A
  if_room None w a = refuse NoRoom w
  if_room (Some s) w a = a

  -- the row that a call is about
  abbrev pub of_row : Option (ImageRow S R) → Work S R → (ImageRow S R → Acted S R A) → Acted S R A
  of_row None w f = refuse NoSuchRecord w
  of_row (Some row) w f = f row

module _ {S R : Type 0} where
  -- a live job, given the image that it stands at
  abbrev pub at_image : Work S R → Image S R → Option Refusal
  at_image w i = refused_if (is_shut w.standing) JobShut (refused_if (not (i.number == w.image)) OtherImage None)

  abbrev pub sheet_room : Work S R → Option Refusal
  sheet_room w = refused_if (nat_le 16 (length w.entries)) SheetFull None

module _ {S R : Type 0} (k : Kind S) where
  -- look
  abbrev pub look_lower : Work S R → ImageRow S R → S
  look_lower w row = later k.order w.lower row.write

  abbrev pub look_new : Work S R → ℕ → ImageRow S R → Acted S R R
  look_new w x row =
      if_room (k.pick (look_lower w row) w.upper) w
      (record { answer = Ok row.value; work = bounded_below w (look_lower w row) (w.entries ++ (looked x row ∷ [])) })

  abbrev pub look_found : Option (Entry S R) → Work S R → ℕ → ImageRow S R → Acted S R R
  look_found (Some e) w x row = record { answer = Ok (own_value e); work = w }
  look_found None w x row = unless (sheet_room w) w (look_new w x row)

  abbrev pub look_work : Work S R → Image S R → ℕ → Acted S R R
  look_work w i x = unless (at_image w i) w (of_row (slice_get i.rows x) w (look_found (find x w.entries) w x))

  -- put
  abbrev pub put_lower : Work S R → ImageRow S R → S
  put_lower w row = later k.order (later k.order w.lower row.write) row.read

  abbrev pub put_bounded : Work S R → ImageRow S R → List (Entry S R) → Acted S R (Unit {0})
  put_bounded w row entries =
      if_room (k.pick (put_lower w row) w.upper) w (record { answer = Ok tt; work = bounded_below w (put_lower w row) entries })

  abbrev pub put_again : Bool → Work S R → ℕ → ImageRow S R → R → Acted S R (Unit {0})
  put_again true w x row v = record { answer = Ok tt; work = bounded_below w w.lower (put_on x v w.entries) }
  put_again false w x row v = put_bounded w row (put_on x v w.entries)

  abbrev pub put_found : Option (Entry S R) → Work S R → ℕ → R → ImageRow S R → Acted S R (Unit {0})
  put_found (Some e) w x v row = put_again e.put w x row v
  put_found None w x v row = unless (sheet_room w) w (put_bounded w row (w.entries ++ (put_unseen x row v ∷ [])))

  abbrev pub put_work : Work S R → Image S R → ℕ → R → Acted S R (Unit {0})
  put_work w i x v = unless (at_image w i) w (of_row (slice_get i.rows x) w (put_found (find x w.entries) w x v))

-- tune: the first write of a record in the image, if it has one
abbrev pub first_in : {S R : Type 0} → Option (ImageRow S R) → Option S
first_in None = None
first_in (Some row) = row.first

abbrev pub read_in : {S R : Type 0} → Option (ImageRow S R) → Option S
read_in None = None
read_in (Some row) = Some row.read

module _ {S R : Type 0} where
  abbrev pub first_write : Image S R → ℕ → Option S
  first_write i x = first_in (slice_get i.rows x)

  abbrev pub read_stamp : Image S R → ℕ → Option S
  read_stamp i x = read_in (slice_get i.rows x)

  -- a put entry whose row has a first write
  abbrev pub struck : (ℕ → Option S) → List (Entry S R) → Bool
  struck first [] = false
  struck first (e ∷ es) = (e.put && is_some (first e.number)) || struck first es

  -- an open entry whose row has one is closed
  abbrev pub closed_by : (ℕ → Option S) → Entry S R → Entry S R
  closed_by first e = cond (e.opened && is_some (first e.number)) (closed e) e

module _ {S : Type 0} (o : Order S) where
  -- an upper bound, made the earlier of itself and a stamp, if there is one
  abbrev pub narrowed : Option S → Option S → Option S
  narrowed upper None = upper
  narrowed upper (Some s) = Some (earlier o upper s)

  -- a lower bound, made the later of itself and a stamp, if there is one
  abbrev pub lifted : S → Option S → S
  lifted lower None = lower
  lifted lower (Some s) = later o lower s

module _ {S R : Type 0} (o : Order S) where
  -- for each open entry the upper bound becomes the earlier of itself and the row's first write
  abbrev pub upper_by : (ℕ → Option S) → List (Entry S R) → Option S → Option S
  upper_by first [] upper = upper
  upper_by first (e ∷ es) upper = upper_by first es (cond e.opened (narrowed o upper (first e.number)) upper)

  -- for each put entry the lower bound becomes the later of itself and a stamp of the row
  abbrev pub lower_by : (ℕ → Option S) → List (Entry S R) → S → S
  lower_by stamp [] lower = lower
  lower_by stamp (e ∷ es) lower = lower_by stamp es (cond e.put (lifted o lower (stamp e.number)) lower)

module _ {S R : Type 0} (k : Kind S) where
  abbrev pub tune_lower : Work S R → Image S R → S
  tune_lower w i = lower_by k.order (read_stamp i) w.entries w.lower

  abbrev pub tune_upper : Work S R → Image S R → Option S
  tune_upper w i = upper_by k.order (first_write i) w.entries w.upper

  abbrev pub tuned : Bool → Option S → Work S R → Image S R → Acted S R Standing
  tuned true p w i = record { answer = Ok Shut; work = shut_down w }
  tuned false None w i = record { answer = Ok Shut; work = shut_down w }
  tuned false (Some s) w i =
      record {
        answer = Ok Live;
        work = record { image = i.number; lower = tune_lower w i; upper = tune_upper w i; standing = w.standing; entries = map (closed_by (first_write i)) w.entries };
      }

  -- a live job, given the next image, with every record of its sheet in it
  abbrev pub at_next : Work S R → Image S R → Option Refusal
  at_next w i =
      refused_if (is_shut w.standing) JobShut
      (refused_if (not (i.number == w.image + 1)) NotNextImage (refused_if (beyond i.records w.entries) NoSuchRecord None))

  abbrev pub tune_work : Work S R → Image S R → Acted S R Standing
  tune_work w i = unless (at_next w i) w (tuned (struck (first_write i) w.entries) (k.pick (tune_lower w i) (tune_upper w i)) w i)

-- a job with its sheet, as the tables have them
pub record Station (S R : Type 0) : Type 0 where
  pub job : Job S
  pub sheet : List (Entry S R)

-- what a call answers, and what it leaves in the job and its sheet
pub record Answered (S R A : Type 0) : Type 0 where
  pub answer : Result A Refusal
  pub station : Station S R

module _ {S R : Type 0} where
  -- the entries that count are the first `count` places of the sheet
  abbrev pub work_of : Station S R → Work S R
  work_of t =
      record { image = t.job.image; lower = t.job.lower; upper = t.job.upper; standing = t.job.standing; entries = take t.job.count t.sheet }

  -- the job's entries back on its sheet; the places behind them keep their content
  abbrev pub put_back : Station S R → Work S R → Station S R
  put_back t w =
      record {
        job = record { image = w.image; lower = w.lower; upper = w.upper; standing = w.standing; count = max t.job.count (length w.entries) };
        sheet = laid w.entries t.sheet;
      }

module _ {S R A : Type 0} where
  abbrev pub carried_out : Station S R → Acted S R A → Answered S R A
  carried_out t a = record { answer = a.answer; station = put_back t a.work }

  -- refused where the image's tables or the sheet have another length than theirs
  abbrev pub if_sized : Station S R → Image S R → Acted S R A → Answered S R A
  if_sized t i a = cond (image_sized i && sized t.sheet 16) (carried_out t a) (record { answer = Err WrongTables; station = t })

-- The calls at a station.
module _ {S R : Type 0} (k : Kind S) where
  abbrev pub open_refused : Image S R → Option Refusal
  open_refused i = refused_if (not (image_sized i)) WrongTables (refused_if (i.number == 0) OtherImage None)

  abbrev pub opened_unless : Option Refusal → Image S R → Result (Job S) Refusal
  opened_unless (Some r) i = Err r
  opened_unless None i = Ok (record { image = i.number; lower = k.order.least; upper = None; standing = Live; count = 0 })

  abbrev pub open_job : Image S R → Result (Job S) Refusal
  open_job i = opened_unless (open_refused i) i

  abbrev pub look_job : Station S R → Image S R → ℕ → Answered S R R
  look_job t i x = if_sized t i (look_work k (work_of t) i x)

  abbrev pub put_job : Station S R → Image S R → ℕ → R → Answered S R (Unit {0})
  put_job t i x v = if_sized t i (put_work k (work_of t) i x v)

  abbrev pub tune_job : Station S R → Image S R → Answered S R Standing
  tune_job t i = if_sized t i (tune_work k (work_of t) i)
