-- What look, put and tune write, place by place, once a call is admitted.
use Rattle.std.specs.Prelude.{ℕ, ◌+◌, Bool, true, false, cond, List, map, take, Some, None, Ok, Err, Option, Result, nat_le, slice_set}
use Rattle.kinds.specs.Stamps.{Kind}
use Rattle.kinds.specs.Bounds.{later}
use Rattle.model.specs.declared.entry.Entry.{Entry}
use Rattle.model.specs.declared.image.ImageRow.{ImageRow}
use Rattle.model.specs.declared.refusal.Refusal.{Refusal}
use Rattle.model.specs.declared.refusal.Refusal.TheVariants.{SheetFull, NoRoom}
use Rattle.model.specs.Sheets.{looked, put_unseen, with_value, own_value}
use Rattle.model.specs.Tables.{laid}
use Rattle.station.specs.declared.job.Job.{Job}
use Rattle.station.specs.declared.job.Standing.{Standing}
use Rattle.station.specs.declared.job.Standing.TheVariants.{Live, Shut}
use Rattle.station.specs.Station.{Image, Station, Answered, struck, closed_by, lower_by, upper_by}
use Rattle.station.specs.Heard.{answered, firsts, reads, put_bound}

module _ {S : Type 0} where
  -- a job with another lower bound, and with one entry more
  abbrev pub lifted_to : S → Job S → Job S
  lifted_to lower j = record { image = j.image; lower = lower; upper = j.upper; standing = j.standing; count = j.count }

  abbrev pub grown_to : S → Job S → Job S
  grown_to lower j = record { image = j.image; lower = lower; upper = j.upper; standing = j.standing; count = j.count + 1 }

  -- a job shut, and one at another image with other bounds
  abbrev pub shut : Job S → Job S
  shut j = record { image = j.image; lower = j.lower; upper = j.upper; standing = Shut; count = j.count }

  abbrev pub moved_to : ℕ → S → Option S → Job S → Job S
  moved_to image lower upper j = record { image = image; lower = lower; upper = upper; standing = j.standing; count = j.count }

module _ {S R A : Type 0} where
  abbrev pub refused : Refusal → Station S R → Answered S R A
  refused r t = answered (Err r) t.job t.sheet

  -- refused where pick would answer none
  abbrev pub where_room : Option S → Station S R → Answered S R A → Answered S R A
  where_room None t a = refused NoRoom t
  where_room (Some s) t a = a

  -- refused where 16 entries count
  abbrev pub where_place : Station S R → Answered S R A → Answered S R A
  where_place t a = cond (nat_le 16 t.job.count) (refused SheetFull t) a

-- an entry more, and another lower bound
abbrev pub entered_at : {S R A : Type 0} → Kind S → Station S R → S → Entry S R → Result A Refusal → Answered S R A
entered_at k t lower e r =
    where_place t
    (where_room (k.pick lower t.job.upper) t
    (answered r (grown_to lower t.job) (slice_set t.sheet t.job.count e)))

module _ {S R : Type 0} (k : Kind S) (t : Station S R) where
  abbrev pub look_bound : ImageRow S R → S
  look_bound row = later k.order t.job.lower row.write

  abbrev pub look_new_at : ℕ → ImageRow S R → Answered S R R
  look_new_at x row = entered_at k t (look_bound row) (looked x row) (Ok row.value)

  abbrev pub look_at : Option (ℕ × Entry S R) → ℕ → ImageRow S R → Answered S R R
  look_at (Some p) x row = answered (Ok (own_value p.1)) t.job t.sheet
  look_at None x row = look_new_at x row

  abbrev pub lower_for : ImageRow S R → S
  lower_for row = put_bound k.order t.job.lower row

  abbrev pub put_new_at : ℕ → ImageRow S R → R → Answered S R (Unit {0})
  put_new_at x row v = entered_at k t (lower_for row) (put_unseen x row v) (Ok tt)

  abbrev pub put_again_at : ℕ → Entry S R → ImageRow S R → R → Answered S R (Unit {0})
  put_again_at i e row v =
      cond e.put
      (answered (Ok tt) t.job (slice_set t.sheet i (with_value v e)))
      (where_room (k.pick (lower_for row) t.job.upper) t
      (answered (Ok tt) (lifted_to (lower_for row) t.job) (slice_set t.sheet i (with_value v e))))

  abbrev pub put_at : Option (ℕ × Entry S R) → ℕ → ImageRow S R → R → Answered S R (Unit {0})
  put_at (Some p) x row v = put_again_at p.0 p.1 row v
  put_at None x row v = put_new_at x row v

  -- tune, by the bounds after the image
  abbrev pub tune_by : Option (S × Option S) → Image S R → Answered S R Standing
  tune_by None i = answered (Ok Shut) (shut t.job) t.sheet
  tune_by (Some b) i =
      answered (Ok Live) (moved_to i.number b.0 b.1 t.job) (laid (map (closed_by (firsts i.rows)) (take t.job.count t.sheet)) t.sheet)

-- the bounds after an image, unless a put entry is struck or pick would answer none for them
abbrev pub bounds_if : {S : Type 0} → Bool → Option S → S × Option S → Option (S × Option S)
bounds_if true p b = None
bounds_if false None b = None
bounds_if false (Some s) b = Some b

module _ {S R : Type 0} (k : Kind S) (j : Job S) (es : List (Entry S R)) (rows : List (ImageRow S R)) where
  abbrev pub lower_at : S
  lower_at = lower_by k.order (reads rows) es j.lower

  abbrev pub upper_at : Option S
  upper_at = upper_by k.order (firsts rows) es j.upper

  abbrev pub bounds_at : Option (S × Option S)
  bounds_at = bounds_if (struck (firsts rows) es) (k.pick lower_at upper_at) (lower_at, upper_at)

abbrev pub tune_at : {S R : Type 0} → Kind S → Station S R → Image S R → Answered S R Standing
tune_at k t i = tune_by k t (bounds_at k t.job (take t.job.count t.sheet) i.rows) i
