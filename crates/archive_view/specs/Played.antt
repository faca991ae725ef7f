-- The written forms of the values that stand after so many jobs.
use Rattle.std.specs.Prelude.{ℕ, ◌+◌, ◌*◌, Bool, cond, ◌&&◌, List, Ok, Err, Result, ◌==◌, nat_le}
use Rattle.kinds.specs.Stamps.{Order}
use Rattle.kinds.specs.Values.{RecordKind}
use Rattle.archive.specs.declared.fault.Fault.{Fault}
use Rattle.archive.specs.declared.fault.Fault.TheVariants.{SpaceWrong}
use Rattle.archive.specs.declared.heading.Heading.{Heading}
use Rattle.archive.specs.Faults.{onward}
use Rattle.archive.specs.Values.{values_bytes, stated_values}
use Rattle.archive.specs.Rule.{read_archive}
use Rattle.archive.specs.Played.{blocks_played}
use Rattle.archive_view.specs.Named.{kinds_named, by_kinds}

-- 12 bytes for each record, and at most as many jobs as there are
abbrev pub fits : Heading → ℕ → ℕ → Bool
fits h len m = len == 12 * h.records && nat_le m h.jobs

module _ {S R : Type 0} (o : Order S) (k : RecordKind R) (bs : List ℕ) where
  -- the opening values with the puts of the first m jobs entered, in their forms
  abbrev pub forms_after : Heading → ℕ → List ℕ
  forms_after h m = values_bytes k.form (blocks_played k.form bs 20 (20 + 8 * h.jobs + 12 * h.records) (stated_values k.form bs (20 + 8 * h.jobs) 12 h.records) m)

  -- the forms for a space of so many bytes
  abbrev pub forms_told : ℕ → ℕ → Result (List ℕ) Fault
  forms_told len m = onward (read_archive o k bs) (λ h. cond (fits h len m) (Ok (forms_after h m)) (Err SpaceWrong))

-- the same by the kinds that the heading names
abbrev pub forms_named : List ℕ → ℕ → ℕ → Result (List ℕ) Fault
forms_named bs len m = by_kinds (λ S R o k. forms_told o k bs len m) (kinds_named bs)

-- what is answered, and what is left in a space, which stays as it was at a fault
abbrev pub answered : Result (List ℕ) Fault → Result (Unit {0}) Fault
answered (Ok forms) = Ok tt
answered (Err e) = Err e

abbrev pub left_behind : Result (List ℕ) Fault → List ℕ → List ℕ
left_behind (Ok forms) space = forms
left_behind (Err e) space = space
