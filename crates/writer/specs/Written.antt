-- The archive of a registry: how long it is, and what writing it answers and leaves.
use Rattle.std.specs.Prelude.{ℕ, cond, List, length, Ok, Err, Result, nat_le}
use Rattle.kinds.specs.Stamps.{Order}
use Rattle.kinds.specs.Values.{RecordKind}
use Rattle.model.specs.Tables.{laid}
use Rattle.registrar.specs.Registry.{Registry, registry_sized}
use Rattle.law.specs.Daybook.{journal_of}
use Rattle.archive.specs.Journal.{archive_bytes}
use Rattle.writer.specs.declared.unwritten.Unwritten.{Unwritten}
use Rattle.writer.specs.declared.unwritten.Unwritten.TheVariants.{WrongTables, SpaceShort}

-- what write answers, and the space that it leaves
pub record Writing : Type 0 where
  pub answer : Result ℕ Unwritten
  pub space : List ℕ

abbrev pub writing_as : Result ℕ Unwritten → List ℕ → Writing
writing_as r space = record { answer = r; space = space }

-- an archive laid at the front of a space, if it has room
abbrev pub laid_down : List ℕ → List ℕ → Writing
laid_down archive space = cond (nat_le (length archive) (length space)) (writing_as (Ok (length archive)) (laid archive space)) (writing_as (Err SpaceShort) space)

module _ {S R : Type 0} (o : Order S) (k : RecordKind R) where
  -- the archive of the opening values and the journal
  abbrev pub archive_of : Registry S R → List ℕ
  archive_of g = archive_bytes o k g.opening (journal_of g)

  -- how many bytes it takes
  abbrev pub archive_size : Registry S R → Result ℕ Unwritten
  archive_size g = cond (registry_sized g) (Ok (length (archive_of g))) (Err WrongTables)

  abbrev pub written : Registry S R → List ℕ → Writing
  written g space = cond (registry_sized g) (laid_down (archive_of g) space) (writing_as (Err WrongTables) space)
