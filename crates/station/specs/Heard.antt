-- What the code hands to a call and has from it, and what its parts answer.
use Rattle.std.specs.Prelude.{ℕ, suc, cond, ◌&&◌, List, [], ◌∷◌, Some, None, Ok, Err, Option, Result, ◌==◌}
use Rattle.std.specs.Option.{option_map}
use Rattle.std.specs.List.{slice_get}
use Rattle.kinds.specs.Stamps.{Order, Kind}
use Rattle.kinds.specs.Bounds.{later}
use Rattle.model.specs.declared.entry.Entry.{Entry}
use Rattle.model.specs.declared.image.Image.{Image as Broadcast}
use Rattle.model.specs.declared.image.ImageRow.{ImageRow}
use Rattle.model.specs.declared.refusal.Refusal.{Refusal}
use Rattle.model.specs.declared.refusal.Refusal.TheVariants.{WrongTables, JobShut, NoSuchRecord, NoRoom}
use Rattle.model.specs.Tables.{sized}
use Rattle.station.specs.declared.job.Job.{Job}
use Rattle.station.specs.Station.{Image, image_sized, Station, Answered, work_of, is_shut, at_image, at_next, first_in, read_in}

module _ {S R : Type 0} where
  -- an image as the code has it, with what its tables hold
  abbrev pub heard : Broadcast S R → Image S R
  heard i = record { records = i.records; number = i.number; rows = i.rows.now; outcomes = i.outcomes.now; count = i.count }

  abbrev pub station : Job S → List (Entry S R) → Station S R
  station job sheet = record { job = job; sheet = sheet }

  -- the first writes and the read stamps of rows, by record number
  abbrev pub firsts : List (ImageRow S R) → ℕ → Option S
  firsts rows x = first_in (slice_get rows x)

  abbrev pub reads : List (ImageRow S R) → ℕ → Option S
  reads rows x = read_in (slice_get rows x)

  -- a lower bound, made the later of itself and a row's write and read stamps
  abbrev pub put_bound : Order S → S → ImageRow S R → S
  put_bound o lower row = later o (later o lower row.write) row.read

  -- the first entry for a record, with its place
  abbrev pub one_on : ℕ × Entry S R → ℕ × Entry S R
  one_on p = (suc p.0, p.1)

  abbrev pub found_at : ℕ → List (Entry S R) → Option (ℕ × Entry S R)
  found_at x [] = None
  found_at x (e ∷ es) = cond (x == e.number) (Some (0, e)) (option_map one_on (found_at x es))

  -- whether a call's tables have their sizes and its job is live, or why not
  abbrev pub readied : Station S R → Image S R → Result (Unit {0}) Refusal
  readied t i = cond (image_sized i && sized t.sheet 16) (cond (is_shut t.job.standing) (Err JobShut) (Ok tt)) (Err WrongTables)

  -- the row that a look or a put is about, or why the call is refused
  abbrev pub row_unless : Option Refusal → Option (ImageRow S R) → Result (ImageRow S R) Refusal
  row_unless (Some r) o = Err r
  row_unless None None = Err NoSuchRecord
  row_unless None (Some row) = Ok row

  abbrev pub admitted : Station S R → Image S R → ℕ → Result (ImageRow S R) Refusal
  admitted t i x = cond (image_sized i && sized t.sheet 16) (row_unless (at_image (work_of t) i) (slice_get i.rows x)) (Err WrongTables)

-- a lower bound, if the kind picks a stamp for it
abbrev pub roomed : {S : Type 0} → Option S → S → Result S Refusal
roomed None lower = Err NoRoom
roomed (Some s) lower = Ok lower

-- whether a job may go on to an image, or why not
abbrev pub on_unless : Option Refusal → Result (Unit {0}) Refusal
on_unless (Some r) = Err r
on_unless None = Ok tt

module _ {S R : Type 0} (k : Kind S) where
  abbrev pub admitted_next : Station S R → Image S R → Result (Unit {0}) Refusal
  admitted_next t i = cond (image_sized i && sized t.sheet 16) (on_unless (at_next k (work_of t) i)) (Err WrongTables)

module _ {S R A : Type 0} where
  abbrev pub answered : Result A Refusal → Job S → List (Entry S R) → Answered S R A
  answered r job sheet = record { answer = r; station = station job sheet }
