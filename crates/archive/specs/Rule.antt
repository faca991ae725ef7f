-- The whole rule: heading, directory, opening values, blocks, and then the play.
use Rattle.std.specs.Prelude.{ℕ, ◌+◌, ◌*◌, List, length, Ok, Err, Result}
use Rattle.kinds.specs.Stamps.{Order}
use Rattle.kinds.specs.Values.{RecordKind}
use Rattle.archive.specs.declared.fault.Fault.{Fault}
use Rattle.archive.specs.declared.heading.Heading.{Heading}
use Rattle.archive.specs.declared.whole.Archive.{Archive}
use Rattle.archive.specs.Faults.{onward}
use Rattle.archive.specs.Heading.{read_heading}
use Rattle.archive.specs.Directory.{read_directory}
use Rattle.archive.specs.Values.{read_values}
use Rattle.archive.specs.Blocks.{read_blocks}
use Rattle.archive.specs.Play.{opening_table, play_jobs}

-- what the heading of an archive states, or the fault
abbrev pub headed : Result Archive Fault → Result Heading Fault
headed (Ok a) = Ok a.stated
headed (Err e) = Err e

-- where an archive ends, or the fault
abbrev pub ended : Result Archive Fault → Result ℕ Fault
ended (Ok a) = Ok (length a.bytes.now)
ended (Err e) = Err e

module _ {S R : Type 0} (o : Order S) (k : RecordKind R) where
  -- all but the play
  abbrev pub read_archive : List ℕ → Result Heading Fault
  read_archive bs =
      onward (read_heading o.number k.number bs) (λ h.
      onward (read_directory bs h.records h.jobs) (λ _.
      onward (read_values k.form bs (20 + 8 * h.jobs) 12 h.records) (λ _.
      onward (read_blocks o k.form bs h.records 20 (20 + 8 * h.jobs + 12 * h.records) o.least h.jobs) (λ _.
      Ok h))))

module _ {S : Type 0} (o : Order S) where
  -- the play from the opening values, every stamp least
  abbrev pub read_play : List ℕ → ℕ → ℕ → Result (Unit {0}) Fault
  read_play bs n j = play_jobs o bs 20 (20 + 8 * j + 12 * n) o.least (opening_table (o.form.written o.least) bs (20 + 8 * j) n) j

module _ {S R : Type 0} (o : Order S) (k : RecordKind R) where
  -- the first fault, or the number of jobs
  abbrev pub inspected : List ℕ → Result ℕ Fault
  inspected bs = onward (read_archive o k bs) (λ h. onward (read_play o bs h.records h.jobs) (λ _. Ok h.jobs))
