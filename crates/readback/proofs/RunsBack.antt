-- What is laid down of a run reads back and plays back.
use Rattle.std.proofs.Common.{◌≡◌, ℕ, List, length, take, Some, None, Option, sym, refl, ap, ◌∙◌, subst, arith}
use Rattle.std.specs.Option.{option_map}
use Rattle.std.specs.List.{slice_get}
use Rattle.std.proofs.lemmas.List.{take_all}
use Rattle.kinds.specs.Forms.{Form, Alike}
use Rattle.kinds.specs.Stamps.{Kind, Lawful}
use Rattle.kinds.specs.Values.{RecordKind, Written}
use Rattle.model.specs.declared.row.Row.{Row}
use Rattle.model.specs.Rows.{Stood, stood}
use Rattle.registrar.specs.Registry.{Registry}
use Rattle.law.specs.Daybook.{AcceptedJob, journal_of}
use Rattle.law.specs.Account.{at_opening, played}
use Rattle.archive.specs.Rule.{read_archive}
use Rattle.archive.specs.Played.{play_leaves}
use Rattle.archive.specs.Journal.{archive_bytes, stated_opening, stated_journal}
use Rattle.archive.proofs.KnownArchive.{opening_long, inspected_says}
use Rattle.readback.specs.ReadsBack.{AlikeJob, ReadsBack, RunReadsBack}
use Rattle.readback.specs.PlaysBack.{value_at, RunPlaysBack}
use Rattle.readback.proofs.Back.{sound_reads_back}
use Rattle.readback.proofs.RunsSound.{runs_sound, run_ends, run_opening}
use Rattle.readback.proofs.PlaysStated.{plays_at}
use Rattle.readback.proofs.AlikePlays.{each_length, opening_alike, plays_alike}

-- a row's value in its written form
row_written : {S R : Type 0} (f : Form R) (p : Option (Row S R))
    → option_map f.written (option_map (λ (w : Stood S R). w.value) (option_map stood p)) ≡ option_map (λ (row : Row S R). f.written row.value) p
row_written f None = refl
row_written f (Some row) = refl

module _ {S R : Type 0} (k : Kind S) (r : RecordKind R) (g : Registry S R) where
  abbrev laid_down : List ℕ
  laid_down = archive_bytes k.order r g.opening (journal_of g)

  -- what reads back plays back, where the play of the journal ends at the rows
  plays_back : ReadsBack k.order r g.opening (journal_of g) → length g.opening ≡ g.own.records
      → ((x : ℕ) → played (at_opening k.order g.opening) (journal_of g) x ≡ option_map stood (slice_get g.rows x))
      → (space : List R) → length space ≡ g.own.records → (x : ℕ)
      → option_map r.form.written (slice_get (play_leaves r.form laid_down (read_archive k.order r laid_down) space (length (journal_of g))) x) ≡ option_map (λ (row : Row S R). r.form.written row.value) (slice_get g.rows x)
  plays_back back size ends space l x =
      let m : ℕ = length (journal_of g) in
      let vs : List R = stated_opening k.order r laid_down in
      let js : List (AcceptedJob S R) = stated_journal k.order r laid_down in
      let a = inspected_says k.order r laid_down m back.accepted in
      let jobs : a.heading.jobs ≡ m = a.count in
      let lv : length vs ≡ a.heading.records = opening_long k.order r laid_down a.heading a.read in
      let lo : length vs ≡ length g.opening = each_length (Alike r.form) vs g.opening back.opening in
      let lj : length js ≡ m = each_length (AlikeJob k.order r.form) js (journal_of g) back.journal in
      let all : take m js ≡ js = take_all m js (omega arith) in
      ap (option_map r.form.written)
      (plays_at k.order r laid_down a.heading space m a.read (l ∙ sym size ∙ sym lo ∙ lv) (omega arith) x ∙ ap (λ (z : List (AcceptedJob S R)). value_at (played (at_opening k.order vs) z) x) all)
      ∙ plays_alike k.order r.form js (journal_of g) back.journal (at_opening k.order vs) (at_opening k.order g.opening) (opening_alike k.order r.form vs g.opening back.opening) x
      ∙ ap (λ (w : Option (Stood S R)). option_map r.form.written (option_map (λ (w : Stood S R). w.value) w)) (ends x)
      ∙ row_written r.form (slice_get g.rows x)

module _ {S R : Type 0} (k : Kind S) (laws : Lawful k) (r : RecordKind R) (written : Written r) (g : Registry S R) where
  pub run_reads : RunReadsBack k r g
  run_reads values brought e calls q = subst (λ (z : Registry S R). ReadsBack k.order r z.opening (journal_of z)) q (sound_reads_back k.order r laws.ordered written _ _ (runs_sound k laws r.form values brought e calls))

  pub run_plays : RunPlaysBack k r g
  run_plays values brought e calls q space l x =
      plays_back k r g (run_reads values brought e calls q)
      (subst (λ (z : Registry S R). length z.opening ≡ z.own.records) q (run_opening k laws values brought e calls))
      (subst (λ (z : Registry S R). (x : ℕ) → played (at_opening k.order z.opening) (journal_of z) x ≡ option_map stood (slice_get z.rows x)) q (run_ends k laws values brought e calls))
      space l x
