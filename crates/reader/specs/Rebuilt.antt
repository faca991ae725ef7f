-- The values at a place of the journal.
use Rattle.std.specs.Prelude.{◌≡◌, ℕ, Bool, cond, ◌&&◌, List, length, take, fold, slice_set, Ok, Err, Result, ◌==◌, nat_le}
use Rattle.kinds.specs.Stamps.{Order}
use Rattle.kinds.specs.Values.{RecordKind}
use Rattle.law.specs.Daybook.{Put, AcceptedJob}
use Rattle.archive.specs.declared.fault.Fault.{Fault}
use Rattle.archive.specs.declared.fault.Fault.TheVariants.{SpaceWrong}
use Rattle.archive.specs.Rule.{read_archive}
use Rattle.archive.specs.Played.{play_leaves}
use Rattle.reader.specs.Stated.{Stated}

-- a put stands in place of the value before
abbrev pub with_put : {R : Type 0} → List R → Put R → List R
with_put vs p = slice_set vs p.number p.value

abbrev pub with_puts : {R : Type 0} → List R → List (Put R) → List R
with_puts vs ps = fold with_put vs ps

module _ {S R : Type 0} where
  abbrev pub with_job : List R → AcceptedJob S R → List R
  with_job vs j = with_puts vs j.puts

  -- the opening values and the puts of the first m jobs in turn
  abbrev pub rebuilt : Stated S R → ℕ → List R
  rebuilt s m = fold with_job s.opening (take m s.journal)

  -- a space of as many values as records, and at most as many jobs as there are
  abbrev pub can_rebuild : Stated S R → ℕ → List R → Bool
  can_rebuild s m space = length space == length s.opening && nat_le m (length s.journal)

  abbrev pub rebuild_answer : Stated S R → ℕ → List R → Result (Unit {0}) Fault
  rebuild_answer s m space = cond (can_rebuild s m space) (Ok tt) (Err SpaceWrong)

  abbrev pub rebuild_leaves : Stated S R → ℕ → List R → List R
  rebuild_leaves s m space = cond (can_rebuild s m space) (rebuilt s m) space

-- what play leaves of an archive is what is rebuilt, at every place and in every space
abbrev pub PlaysAs : {S R : Type 0} → Order S → RecordKind R → List ℕ → Stated S R → Type 0
PlaysAs {S} {R} o k bs s = (m : ℕ) (space : List R) → play_leaves k.form bs (read_archive o k bs) space m ≡ rebuild_leaves s m space
