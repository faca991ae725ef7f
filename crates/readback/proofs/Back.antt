-- What is laid down of sound values and jobs is accepted, and states what was laid down.
use Rattle.std.proofs.Common.{◌≡◌, ℕ, ◌+◌, ◌*◌, ◌<◌, ◌≤◌, cond, eqb, List, [], ◌∷◌, length, Ok, Err, sym, refl, ap, ◌∙◌, subst, mul-suc, arith}
use Rattle.std.specs.List.{AllByRecursion, flat_map}
use Rattle.std.proofs.lemmas.List.{length-append}
use Rattle.std.proofs.lemmas.Bool.{cond-true, eq-eqb}
use Rattle.kinds.specs.Forms.{Alike}
use Rattle.kinds.specs.Stamps.{Order, Ordered}
use Rattle.kinds.specs.Values.{RecordKind, Written}
use Rattle.kinds.specs.Bounds.{NotAfter}
use Rattle.kinds.proofs.Orders.{lt_le}
use Rattle.law.specs.Account.{at_opening}
use Rattle.law.specs.Daybook.{AcceptedJob}
use Rattle.law.specs.Promises.{NeatJob}
use Rattle.archive.specs.declared.fault.Fault.TheVariants.{PairWrong}
use Rattle.archive.specs.declared.heading.Heading.{Heading}
use Rattle.archive.specs.Faults.{onward}
use Rattle.archive.specs.Directory.{read_pairs, read_directory}
use Rattle.archive.specs.Values.{read_values, stated_values}
use Rattle.archive.specs.Blocks.{read_blocks}
use Rattle.archive.specs.Play.{opening_table}
use Rattle.archive.specs.Rule.{read_archive, read_play, inspected}
use Rattle.archive.specs.Journal.{block_bytes, archive_bytes, stated_records, stated_opening, stated_journal, stated_jobs}
use Rattle.archive.proofs.Long.{block_long}
use Rattle.readback.specs.Sound.{Orderly, BorneOutAlike}
use Rattle.readback.specs.ReadsBack.{Each, AlikeJob, SoundReadsBack}
use Rattle.readback.proofs.BackRows.{values_back}
use Rattle.readback.proofs.BackNames.{every, few_looks, few_puts}
use Rattle.readback.proofs.BackWalk.{pair_back, Walk, none_behind, walk, pairs_walked, blocks_walked, jobs_walked}
use Rattle.readback.proofs.BackTable.{Held, held_opening}
use Rattle.readback.proofs.BackPlay.{play_walked, play_bears}
use Rattle.readback.proofs.BackDown.{counts, Down, down}

-- bytes in which sound values and jobs are laid down
module _ {S R : Type 0} (o : Order S) (k : RecordKind R) (bs : List ℕ) (values : List R) (jobs : List (AcceptedJob S R))
    (laws : Ordered o) (formed : Written k) (orderly : Orderly o values jobs) (down : Down o k bs values jobs) where
  -- at most 592 bytes to a block
  blocks_short : (js : List (AcceptedJob S R)) → AllByRecursion (NeatJob o (length values)) js → length (flat_map (block_bytes o k.form) js) ≤ 592 * length js
  blocks_short [] h = omega arith
  blocks_short (a ∷ js) h =
      let l = length-append (block_bytes o k.form a) (flat_map (block_bytes o k.form) js) in
      let b = block_long o k.form laws.formed formed a in
      let x = few_looks o (length values) a h.0 in
      let y = few_puts o (length values) a h.0 in
      let i = blocks_short js h.1 in
      let m = mul-suc 592 (length js) in
      omega arith

  small : length bs < 4294967296
  small = let l = down.long in let b = blocks_short jobs orderly.neat in let x = orderly.few_records in let y = orderly.few_jobs in omega arith

  pub walked : Walk o k.form bs (length values) 20 (20 + 8 * length jobs + 12 * length values) o.least jobs
  walked =
      let x = orderly.few_records in
      walk o k.form bs (length values) laws formed (omega arith) small jobs 20 (20 + 8 * length jobs + 12 * length values) o.least o.least refl
      (every (NeatJob o (length values)) (λ (a : AcceptedJob S R). NotAfter o o.least a.stamp) (λ a h. lt_le o laws o.least a.stamp h.risen) jobs orderly.neat)
      orderly.never_falls orderly.neat orderly.ticketed down.job_pairs down.laid_jobs down.long

  abbrev place : ℕ
  place = 20 + 8 * length jobs + 12 * length values

  directory_back : (end : ℕ) × (read_directory bs (length values) (length jobs) ≡ Ok end)
  directory_back =
      let l = down.long in
      let p = pair_back bs 12 (20 + 8 * length jobs) (12 * length values) (eqb (length jobs) 0) down.opening_pair small (omega arith) (λ q. let z = none_behind o k.form bs (length values) jobs q in omega arith) in
      let w = pairs_walked o k.form bs (length values) jobs 20 place o.least walked in (
        w.0,
        ap (λ r. onward r (λ end. cond (eqb end place) (read_pairs bs 20 end (length jobs)) (Err (PairWrong 12)))) p.read
            ∙ cond-true (eqb place place) (read_pairs bs 20 place (length jobs)) (Err (PairWrong 12)) (eq-eqb place place refl)
            ∙ w.1,
      )

  archive_back : read_archive o k bs ≡ Ok (counts (length values) (length jobs))
  archive_back =
      let h : Heading = counts (length values) (length jobs) in
      let v = values_back k.form bs formed values (20 + 8 * length jobs) down.laid_values in
      let b = blocks_walked o k.form bs (length values) jobs 20 place o.least walked in
      ap (λ r. onward r (λ (h : Heading). onward (read_directory bs h.records h.jobs) (λ _. onward (read_values k.form bs (20 + 8 * h.jobs) 12 h.records) (λ _.
      onward (read_blocks o k.form bs h.records 20 (20 + 8 * h.jobs + 12 * h.records) o.least h.jobs) (λ _. Ok h))))) down.heading
      ∙ ap (λ r. onward r (λ _. onward (read_values k.form bs (20 + 8 * length jobs) 12 (length values)) (λ _.
      onward (read_blocks o k.form bs (length values) 20 place o.least (length jobs)) (λ _. Ok h)))) directory_back.1
      ∙ ap (λ r. onward r (λ _. onward (read_blocks o k.form bs (length values) 20 place o.least (length jobs)) (λ _. Ok h))) v.read
      ∙ ap (λ r. onward r (λ _. Ok h)) b.1

  held_first : Held o k.form (length values) (at_opening o values) (opening_table (o.form.written o.least) bs (20 + 8 * length jobs) (length values))
  held_first = held_opening o k.form laws.formed formed bs values (20 + 8 * length jobs) down.laid_values

  play_back : BorneOutAlike o k.form (at_opening o values) jobs → read_play o bs (length values) (length jobs) ≡ Ok tt
  play_back borne =
      let x = orderly.few_records in
      play_walked o k.form laws.formed formed bs (length values) (omega arith) jobs 20 place o.least (at_opening o values)
      (opening_table (o.form.written o.least) bs (20 + 8 * length jobs) (length values)) walked orderly.neat borne held_first

  -- and the other way round
  pub borne_out : read_play o bs (length values) (length jobs) ≡ Ok tt → BorneOutAlike o k.form (at_opening o values) jobs
  borne_out q =
      let x = orderly.few_records in
      play_bears o k.form laws.formed formed bs (length values) (omega arith) jobs 20 place o.least (at_opening o values)
      (opening_table (o.form.written o.least) bs (20 + 8 * length jobs) (length values)) walked orderly.neat held_first q

  accepted : BorneOutAlike o k.form (at_opening o values) jobs → inspected o k bs ≡ Ok (length jobs)
  accepted borne =
      ap (λ r. onward r (λ (h : Heading). onward (read_play o bs h.records h.jobs) (λ _. Ok h.jobs))) archive_back
      ∙ ap (λ r. onward r (λ _. Ok (length jobs))) (play_back borne)

  opening_back : Each (Alike k.form) (stated_opening o k bs) values
  opening_back =
      subst (λ (j : ℕ). Each (Alike k.form) (stated_values k.form bs (20 + 8 * j) 12 (stated_records bs)) values) (sym down.count)
      (subst (λ (n : ℕ). Each (Alike k.form) (stated_values k.form bs (20 + 8 * length jobs) 12 n) values) (sym down.records)
      (values_back k.form bs formed values (20 + 8 * length jobs) down.laid_values).stated)

  journal_back : Each (AlikeJob o k.form) (stated_journal o k bs) jobs
  journal_back =
      subst (λ (j : ℕ). Each (AlikeJob o k.form) (stated_jobs o k.form bs 20 (20 + 8 * j + 12 * stated_records bs) j) jobs) (sym down.count)
      (subst (λ (n : ℕ). Each (AlikeJob o k.form) (stated_jobs o k.form bs 20 (20 + 8 * length jobs + 12 * n) (length jobs)) jobs) (sym down.records)
      (jobs_walked o k.form bs (length values) jobs 20 place o.least walked))

pub sound_reads_back : {S R : Type 0} (o : Order S) (r : RecordKind R) → Ordered o → Written r → SoundReadsBack o r
sound_reads_back o r laws formed values jobs sound =
    let bs : List ℕ = archive_bytes o r values jobs in
    let d : Down o r bs values jobs = down o r formed values jobs sound.orderly in
    record {
      accepted = accepted o r bs values jobs laws formed sound.orderly d sound.borne_out;
      opening = opening_back o r bs values jobs laws formed sound.orderly d;
      journal = journal_back o r bs values jobs laws formed sound.orderly d;
    }
