-- What the play of an archive leaves is what is rebuilt of the jobs that it states.
use Rattle.std.proofs.Common.{◌≡◌, ℕ, zero, suc, ◌+◌, ◌*◌, ◌≤◌, Bool, true, false, cond, ◌&&◌, eqb, leb, List, length, take, get_or, Ok, refl, sym, ap, ◌∙◌, subst, arith}
use Rattle.std.specs.Prelude.{fold}
use Rattle.std.proofs.lemmas.Bool.{and_parts, leb-true, le-leb}
use Rattle.kinds.specs.Bytes.{number2, part}
use Rattle.kinds.specs.Forms.{Form}
use Rattle.kinds.specs.Stamps.{Order}
use Rattle.kinds.specs.Values.{RecordKind}
use Rattle.archive.specs.declared.heading.Heading.{Heading}
use Rattle.archive.specs.Lengths.{block_length}
use Rattle.archive.specs.Directory.{stated_length}
use Rattle.archive.specs.Values.{read_values, stated_values}
use Rattle.archive.specs.Blocks.{read_blocks}
use Rattle.archive.specs.Rule.{read_archive}
use Rattle.archive.specs.Journal.{stated_puts, stated_jobs, stated_records, stated_count, stated_opening}
use Rattle.archive.specs.Played.{value_in, values_after, block_played, blocks_played, room_right, play_leaves}
use Rattle.archive.proofs.KnownEntries.{put_says}
use Rattle.archive.proofs.KnownArchive.{archive_says, opening_long}
use Rattle.reader.specs.Stated.{stated}
use Rattle.reader.specs.Rebuilt.{with_puts, with_job, rebuilt, rebuild_leaves}
use Rattle.reader.proofs.Journal.{CanRead, blocks_met, journal_long}

module _ {S R : Type 0} (o : Order S) (f : Form R) (bs : List ℕ) where
  puts_played : (m at : ℕ) (vs : List R) → read_values f bs (at + 2) 14 m ≡ Ok tt → values_after f bs at vs m ≡ with_puts vs (stated_puts o f bs at m)
  puts_played zero at vs q = refl
  puts_played (suc m) at vs q =
      let x : ℕ = number2 (part bs at 2) in
      let z = put_says o f bs m at q in
      puts_played m (at + 14) (value_in (f.read (part bs (at + 2) 12)) vs x) z.rest
      ∙ ap (λ v. with_puts (value_in v vs x) (stated_puts o f bs (at + 14) m)) z.valued ∙ ap (with_puts vs) (sym z.states)

  -- the block at a place enters its puts
  block_entered : (at : ℕ) (vs : List R) → CanRead o f bs at → block_played f bs at vs ≡ with_puts vs (stated_puts o f bs (at + 16 + 22 * get_or bs (at + 12) 0) (get_or bs (at + 13) 0))
  block_entered at vs c =
      let r : ℕ = get_or bs (at + 12) 0 in
      let p : ℕ = get_or bs (at + 13) 0 in
      let w : at + 16 + 22 * r + 14 * p ≤ length bs = c.puts.within in
      let l : leb (at + block_length r p) (length bs) ≡ true = le-leb _ _ (omega (arith, w)) in
      ap (λ b. cond b (values_after f bs (at + 16 + 22 * r) vs p) vs) l ∙ puts_played p (at + 16 + 22 * r) vs c.puts.valued

  blocks_rebuilt : (m dir at n end i : ℕ) (low : S) (vs : List R) → i ≤ m → read_blocks o f bs n dir at low m ≡ Ok end
      → blocks_played f bs dir at vs i ≡ fold with_job vs (take i (stated_jobs o f bs dir at m))
  blocks_rebuilt m dir at n end zero low vs l q = refl
  blocks_rebuilt zero dir at n end (suc i) low vs l q = absurd (omega arith)
  blocks_rebuilt (suc m) dir at n end (suc i) low vs l q =
      let b = blocks_met o f bs dir at n m end low q in
      let us : List R = with_puts vs (stated_puts o f bs (at + 16 + 22 * get_or bs (at + 12) 0) (get_or bs (at + 13) 0)) in
      ap (λ xs. blocks_played f bs (dir + 8) (at + stated_length bs dir) xs i) (block_entered at vs b.readable)
      ∙ blocks_rebuilt m (dir + 8) (at + stated_length bs dir) n end i b.low us (omega arith) b.rest ∙ sym (b.first.played vs i)

module _ {S R : Type 0} (o : Order S) (k : RecordKind R) (bs : List ℕ) where
  pub play_rebuilds : (h : Heading) (m : ℕ) (space : List R) → read_archive o k bs ≡ Ok h → play_leaves k.form bs (read_archive o k bs) space m ≡ rebuild_leaves (stated o k bs) m space
  play_rebuilds h m space q =
      let opens : List R = stated_opening o k bs in
      let there : List R = rebuilt (stated o k bs) m in
      ap (λ r. play_leaves k.form bs r space m) q
      ∙ by (room_right h (length space) m) refl
      ∙ ap (λ n. cond (eqb (length space) n && leb m h.jobs) there space) (sym (opening_long o k bs h q))
      ∙ ap (λ n. cond (eqb (length space) (length opens) && leb m n) there space) (sym (journal_long o k bs h q))
    where
      same : m ≤ h.jobs → blocks_played k.form bs 20 (20 + 8 * h.jobs + 12 * h.records) (stated_values k.form bs (20 + 8 * h.jobs) 12 h.records) m ≡ rebuilt (stated o k bs) m
      same l =
          let a = archive_says o k bs h q in
          let Played : Heading → List R = λ x. blocks_played k.form bs 20 (20 + 8 * x.jobs + 12 * x.records) (stated_values k.form bs (20 + 8 * x.jobs) 12 x.records) m in
          ap Played (sym a.heading)
          ∙ blocks_rebuilt o k.form bs (stated_count bs) 20 (20 + 8 * stated_count bs + 12 * stated_records bs) (stated_records bs) a.end m o.least (stated_opening o k bs)
          (subst (λ (x : Heading). m ≤ x.jobs) (sym a.heading) l) a.blocks

      by : (b : Bool) → room_right h (length space) m ≡ b
          → cond b (blocks_played k.form bs 20 (20 + 8 * h.jobs + 12 * h.records) (stated_values k.form bs (20 + 8 * h.jobs) 12 h.records) m) space ≡ cond b (rebuilt (stated o k bs) m) space
      by true e = same (leb-true _ _ (and_parts (eqb (length space) h.records) (leb m h.jobs) e).1)
      by false e = refl
