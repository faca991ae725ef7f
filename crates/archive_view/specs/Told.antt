-- What an archive states, told by numbers and written forms.
use Rattle.std.specs.Prelude.{ℕ, List, length, Ok, Result}
use Rattle.std.specs.List.{slice_get}
use Rattle.std.specs.Option.{ok_or}
use Rattle.kinds.specs.Forms.{Form}
use Rattle.kinds.specs.Stamps.{Order}
use Rattle.kinds.specs.Values.{RecordKind}
use Rattle.law.specs.Daybook.{Look, Put, AcceptedJob}
use Rattle.archive.specs.declared.fault.Fault.{Fault}
use Rattle.archive.specs.declared.fault.Fault.TheVariants.{SpaceWrong}
use Rattle.archive.specs.Faults.{onward}
use Rattle.reader.specs.Stated.{read_stated}
use Rattle.archive_view.specs.declared.sizes.Sizes.{Sizes}
use Rattle.archive_view.specs.declared.jobs.JobForm.{JobForm}
use Rattle.archive_view.specs.declared.jobs.LookForm.{LookForm}
use Rattle.archive_view.specs.declared.jobs.PutForm.{PutForm}
use Rattle.archive_view.specs.Named.{kinds_named, by_kinds}

module _ {S R : Type 0} (o : Order S) (f : Form R) where
  -- the forms of a job, of a look and of a put
  abbrev pub job_form : AcceptedJob S R → JobForm
  job_form a = record { stamp = o.form.written a.stamp; ticket = a.ticket; looks = length a.looks; puts = length a.puts }

  abbrev pub look_form : Look S R → LookForm
  look_form l = record { number = l.number; stamp = o.form.written l.saw.stamp; value = f.written l.saw.value }

  abbrev pub put_form : Put R → PutForm
  put_form p = record { number = p.number; value = f.written p.value }

module _ {S R : Type 0} (o : Order S) (k : RecordKind R) (bs : List ℕ) where
  -- the numbers of both kinds, that of records and that of jobs
  abbrev pub sizes_told : Result Sizes Fault
  sizes_told = onward (read_stated o k bs) (λ s. Ok (record { stamp_kind = o.number; record_kind = k.number; records = length s.opening; jobs = length s.journal }))

  -- the job at a place of the final order
  abbrev pub job_stated : ℕ → Result (AcceptedJob S R) Fault
  job_stated i = onward (read_stated o k bs) (λ s. ok_or (slice_get s.journal i) SpaceWrong)

  abbrev pub job_told : ℕ → Result JobForm Fault
  job_told i = onward (job_stated i) (λ a. Ok (job_form o k.form a))

  -- a look and a put of that job
  abbrev pub look_told : ℕ → ℕ → Result LookForm Fault
  look_told i n = onward (job_stated i) (λ a. onward (ok_or (slice_get a.looks n) SpaceWrong) (λ l. Ok (look_form o k.form l)))

  abbrev pub put_told : ℕ → ℕ → Result PutForm Fault
  put_told i n = onward (job_stated i) (λ a. onward (ok_or (slice_get a.puts n) SpaceWrong) (λ p. Ok (put_form o k.form p)))

-- the same by the kinds that the heading names
abbrev pub sizes_named : List ℕ → Result Sizes Fault
sizes_named bs = by_kinds (λ S R o k. sizes_told o k bs) (kinds_named bs)

abbrev pub job_named : List ℕ → ℕ → Result JobForm Fault
job_named bs i = by_kinds (λ S R o k. job_told o k bs i) (kinds_named bs)

abbrev pub look_named : List ℕ → ℕ → ℕ → Result LookForm Fault
look_named bs i n = by_kinds (λ S R o k. look_told o k bs i n) (kinds_named bs)

abbrev pub put_named : List ℕ → ℕ → ℕ → Result PutForm Fault
put_named bs i n = by_kinds (λ S R o k. put_told o k bs i n) (kinds_named bs)
