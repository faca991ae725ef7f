-- What write leaves at the front of a space is the archive, and so it reads back.
use Rattle.std.proofs.Common.{◌≡◌, ℕ, Bool, true, false, cond, List, length, take, Ok, Err, Result, nat_le, sym, ap, ◌∙◌, subst}
use Rattle.std.specs.Result.{IfOk}
use Rattle.kinds.specs.Stamps.{Kind, Lawful}
use Rattle.kinds.specs.Values.{RecordKind, Written}
use Rattle.model.specs.Tables.{laid}
use Rattle.model.proofs.Laid.{take-laid}
use Rattle.registrar.specs.Registry.{Registry, registry_sized}
use Rattle.readback.specs.ReadsBack.{RunStatedBy}
use Rattle.readback.proofs.RunsBack.{run_reads}
use Rattle.writer.specs.declared.unwritten.Unwritten.{Unwritten}
use Rattle.writer.specs.declared.unwritten.Unwritten.TheVariants.{WrongTables, SpaceShort}
use Rattle.writer.specs.Written.{Writing, writing_as, archive_of, written}

module _ (archive space left : List ℕ) (n : ℕ) where
  pub front_of : (sized room : Bool)
      → writing_as (Ok n) left ≡ cond sized (cond room (writing_as (Ok (length archive)) (laid archive space)) (writing_as (Err SpaceShort) space)) (writing_as (Err WrongTables) space)
      → take n left ≡ archive
  front_of true true e =
      let a : Ok n ≡ Ok (length archive) = ap (λ (w : Writing). w.answer) e in
      let l : left ≡ laid archive space = ap (λ (w : Writing). w.space) e in
      let m : n ≡ length archive = cc in
      ap (λ i. take i left) m ∙ ap (take (length archive)) l ∙ take-laid archive space
  front_of true false e = let a : Ok n ≡ Err SpaceShort = ap (λ (w : Writing). w.answer) e in cc
  front_of false room e = let a : Ok n ≡ Err WrongTables = ap (λ (w : Writing). w.answer) e in cc

module _ {S R : Type 0} (k : Kind S) (laws : Lawful k) (r : RecordKind R) (forms : Written r) (g : Registry S R) where
  pub stated_by_front : (result : Result ℕ Unwritten) (space left : List ℕ) → writing_as result left ≡ written k.order r g space → IfOk result (λ n. RunStatedBy k r (take n left) g)
  stated_by_front (Ok n) space left e =
      let archive = archive_of k.order r g in
      let f : take n left ≡ archive = front_of archive space left n (registry_sized g) (nat_le (length archive) (length space)) e in
      subst (λ bs. RunStatedBy k r bs g) (sym f) (run_reads k laws r forms g)
  stated_by_front (Err why) space left e = tt
