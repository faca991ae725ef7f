-- What the functions answer, of what is told of an archive. The fields of a refused call are 0 but for its number and place.
use Rattle.std.specs.Prelude.{ℕ, List, Ok, Err, Result, replicate}
use Rattle.std.specs.Option.{unwrap_or}
use Rattle.archive.specs.declared.fault.Fault.{Fault}
use Rattle.archive.specs.Faults.{fault_listed}
use Rattle.archive_view.specs.declared.sizes.Sizes as told
use Rattle.archive_view.specs.declared.jobs.JobForm.{JobForm}
use Rattle.archive_view.specs.declared.jobs.LookForm.{LookForm}
use Rattle.archive_view.specs.declared.jobs.PutForm.{PutForm}
use Rattle.archive_c.specs.declared.answers.Answer.{Answer}
use Rattle.archive_c.specs.declared.answers.Inspected.{Inspected}
use Rattle.archive_c.specs.declared.answers.Sizes.{Sizes}
use Rattle.archive_c.specs.declared.answers.Job.{Job}
use Rattle.archive_c.specs.declared.answers.Look.{Look}
use Rattle.archive_c.specs.declared.answers.Put.{Put}

-- number 0 where a call is done
abbrev pub done : Answer
done = record { number = 0; place = 0 }

-- the number and the place of a fault
abbrev pub refused : Fault → Answer
refused fault = record { number = (fault_listed fault).number; place = unwrap_or (fault_listed fault).place 0 }

abbrev pub inspected_as : Result ℕ Fault → Inspected
inspected_as (Ok jobs) = record { answer = done; jobs = jobs }
inspected_as (Err fault) = record { answer = refused fault; jobs = 0 }

abbrev pub sizes_as : Result told.Sizes Fault → Sizes
sizes_as (Ok s) = record { answer = done; stamp_kind = s.stamp_kind; record_kind = s.record_kind; records = s.records; jobs = s.jobs }
sizes_as (Err fault) = record { answer = refused fault; stamp_kind = 0; record_kind = 0; records = 0; jobs = 0 }

abbrev pub played_as : Result (List ℕ) Fault → Answer
played_as (Ok forms) = done
played_as (Err fault) = refused fault

abbrev pub job_as : Result JobForm Fault → Job
job_as (Ok j) = record { answer = done; stamp = j.stamp; ticket = j.ticket; looks = j.looks; puts = j.puts }
job_as (Err fault) = record { answer = refused fault; stamp = replicate 8 0; ticket = 0; looks = 0; puts = 0 }

abbrev pub look_as : Result LookForm Fault → Look
look_as (Ok l) = record { answer = done; number = l.number; stamp = l.stamp; value = l.value }
look_as (Err fault) = record { answer = refused fault; number = 0; stamp = replicate 8 0; value = replicate 12 0 }

abbrev pub put_as : Result PutForm Fault → Put
put_as (Ok p) = record { answer = done; number = p.number; value = p.value }
put_as (Err fault) = record { answer = refused fault; number = 0; value = replicate 12 0 }
