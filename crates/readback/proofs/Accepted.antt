-- An archive that is accepted is laid down of sound values and jobs, namely those that it states.
use Rattle.std.proofs.Common.{◌≡◌, ℕ, ◌+◌, ◌*◌, List, length, Ok, sym, ap, ◌∙◌, subst, arith}
use Rattle.std.specs.List.{AllByRecursion}
use Rattle.kinds.specs.Bytes.{Bytes}
use Rattle.kinds.specs.Stamps.{Order, Ordered}
use Rattle.kinds.specs.Values.{RecordKind, Written}
use Rattle.law.specs.Daybook.{AcceptedJob}
use Rattle.law.specs.Promises.{NeatJob}
use Rattle.archive.specs.declared.heading.Heading.{Heading}
use Rattle.archive.specs.Rule.{read_play, inspected}
use Rattle.archive.specs.Journal.{stated_records, stated_count, stated_opening, stated_journal}
use Rattle.archive.proofs.KnownArchive.{ArchiveSays, archive_says, stated_within, opening_long, inspected_says}
use Rattle.archive.proofs.OneForm.{one_form}
use Rattle.archive.proofs.Long.{values_long}
use Rattle.readback.specs.Sound.{Orderly}
use Rattle.readback.specs.Accepted.{SoundArchive, AcceptedExactly, AcceptedIsSound}
use Rattle.readback.proofs.BackDown.{Down, down}
use Rattle.readback.proofs.Back.{borne_out, sound_reads_back}
use Rattle.readback.proofs.JobsSay.{jobs_say}

module _ {S R : Type 0} (o : Order S) (k : RecordKind R) (laws : Ordered o) (formed : Written k) where
  -- what was read without the play is orderly
  orderly_stated : (bs : List ℕ) (h : Heading) → Bytes bs → ArchiveSays o k bs h → length (stated_journal o k bs) ≡ stated_count bs → Orderly o (stated_opening o k bs) (stated_journal o k bs)
  orderly_stated bs h t z l =
      let v = values_long k.form bs (stated_records bs) (20 + 8 * stated_count bs) z.values in
      let j = jobs_say o k.form bs laws t (stated_count bs) 20 (20 + 8 * stated_count bs + 12 * stated_records bs) (stated_records bs) z.end o.least z.blocks in
      let w = stated_within o k bs h z in
      let a = w.some_records in
      let b = w.few_records in
      let c = w.few_jobs in
      record {
        some_records = omega arith;
        few_records = omega arith;
        few_jobs = omega arith;
        neat = subst (λ (n : ℕ). AllByRecursion (NeatJob o n) (stated_journal o k bs)) (sym v) j.neat;
        ticketed = j.ticketed;
        never_falls = j.never_falls;
      }

  pub accepted_is_sound : AcceptedIsSound o k
  accepted_is_sound bs j t q =
      let vs : List R = stated_opening o k bs in
      let js : List (AcceptedJob S R) = stated_journal o k bs in
      let form = one_form o k laws formed bs j t q in
      let a = inspected_says o k bs j q in
      let h : Heading = a.heading in
      let z = archive_says o k bs h a.read in
      let lj : length js ≡ h.jobs = form.1 ∙ sym a.count in
      let lv : length vs ≡ h.records = opening_long o k bs h a.read in
      let orderly = orderly_stated bs h t z (lj ∙ sym (ap (λ (h : Heading). h.jobs) z.heading)) in
      let d : Down o k bs vs js = subst (λ (xs : List ℕ). Down o k xs vs js) (sym form.0) (down o k formed vs js orderly) in
      let played : read_play o bs (length vs) (length js) ≡ Ok tt = ap (λ n. read_play o bs n (length js)) lv ∙ ap (read_play o bs h.records) lj ∙ a.played in
      (record { orderly = orderly; borne_out = borne_out o k bs vs js laws formed orderly d played }, form.0, form.1)

  laid_accepted : (bs : List ℕ) (j : ℕ) → SoundArchive o k bs j → inspected o k bs ≡ Ok j
  laid_accepted bs j s =
      ap (inspected o k) s.laid_down ∙ (sound_reads_back o k laws formed s.values s.jobs s.sound).accepted ∙ ap Ok s.count

  pub accepted_exactly : AcceptedExactly o k
  accepted_exactly bs j t = (
    λ q. let a = accepted_is_sound bs j t q in record { values = stated_opening o k bs; jobs = stated_journal o k bs; sound = a.0; laid_down = a.1; count = a.2 },
    laid_accepted bs j,
  )
