-- The values that play leaves are those of the play of the first jobs that the archive states.
use Rattle.std.proofs.Common.{◌≡◌, ℕ, zero, suc, ◌+◌, ◌*◌, ◌≤◌, Bool, true, false, cond, eqb, leb, List, length, get_or, take, Some, None, Ok, Option, sym, refl, ap, ◌∙◌, subst, arith}
use Rattle.std.specs.Option.{option_map}
use Rattle.std.specs.List.{slice_get}
use Rattle.std.proofs.lemmas.Bool.{and_from, eq-eqb, le-leb}
use Rattle.kinds.specs.Forms.{Form}
use Rattle.kinds.specs.Stamps.{Order}
use Rattle.kinds.specs.Values.{RecordKind}
use Rattle.model.specs.Rows.{Stood}
use Rattle.law.specs.Daybook.{AcceptedJob}
use Rattle.law.specs.Account.{StandingAt, put_of, at_opening, after_job, played}
use Rattle.archive.specs.declared.heading.Heading.{Heading}
use Rattle.archive.specs.declared.blocks.Opened.{Opened}
use Rattle.archive.specs.Lengths.{block_length}
use Rattle.archive.specs.Directory.{stated_length}
use Rattle.archive.specs.Values.{stated_values}
use Rattle.archive.specs.Blocks.{read_blocks}
use Rattle.archive.specs.Rule.{read_archive}
use Rattle.archive.specs.Played.{values_after, block_played, blocks_played, room_right, play_leaves}
use Rattle.archive.specs.Journal.{stated_puts, stated_job, seen_job, stated_jobs, stated_records, stated_count, stated_opening, stated_journal}
use Rattle.archive.proofs.Long.{values_long}
use Rattle.archive.proofs.KnownArchive.{archive_says}
use Rattle.archive.proofs.KnownBlocks.{BlockSays, first_says}
use Rattle.readback.specs.PlaysBack.{value_at, PlaysWhatIsStated}
use Rattle.readback.proofs.PutsOver.{over, value_under, puts_over, after_length}

-- the values that are the values of a standing
abbrev pub Shows : {S R : Type 0} → List R → StandingAt S R → Type 0
Shows vs standing = (x : ℕ) → slice_get vs x ≡ value_at standing x

pub opening_shows : {S R : Type 0} (o : Order S) (vs : List R) → Shows vs (at_opening o vs)
opening_shows {S} {R} o vs x = by (slice_get vs x)
  where
    by : (p : Option R) → p ≡ option_map (λ (w : Stood S R). w.value) (option_map (λ v. record { value = v; stamp = o.least }) p)
    by None = refl
    by (Some v) = refl

module _ {S R : Type 0} (o : Order S) (f : Form R) (bs : List ℕ) where
  -- a block
  block_length_kept : (at : ℕ) (vs : List R) → length (block_played f bs at vs) ≡ length vs
  block_length_kept at vs = by (leb (at + block_length (get_or bs (at + 12) 0) (get_or bs (at + 13) 0)) (length bs))
    where
      by : (t : Bool) → length (cond t (values_after f bs (at + 16 + 22 * get_or bs (at + 12) 0) vs (get_or bs (at + 13) 0)) vs) ≡ length vs
      by true = after_length o f bs (get_or bs (at + 13) 0) (at + 16 + 22 * get_or bs (at + 12) 0) vs
      by false = refl

  block_shows : (at n len : ℕ) (low : S) (opened : Opened S) (vs : List R) (standing : StandingAt S R) → BlockSays o f bs n at len low opened → at + len ≤ length bs → length vs ≡ n → Shows vs standing
      → (s : S) → Shows (block_played f bs at vs) (after_job (stated_job o f bs at s) standing)
  block_shows at n len low opened vs standing b w l h s x =
      let first : ℕ = at + 16 + 22 * get_or bs (at + 12) 0 in
      let p : ℕ = get_or bs (at + 13) 0 in
      let long : len ≡ block_length (get_or bs (at + 12) 0) (get_or bs (at + 13) 0) = b.long in
      ap (λ t. slice_get (cond t (values_after f bs first vs p) vs) x) (le-leb (at + block_length (get_or bs (at + 12) 0) (get_or bs (at + 13) 0)) (length bs) (omega arith))
      ∙ puts_over o f bs p first x vs (rw l b.below, b.once)
      ∙ ap (over (put_of x (stated_puts o f bs first p))) (h x)
      ∙ sym (value_under s (put_of x (stated_puts o f bs first p)) (standing x))

  -- the blocks in turn
  plays : (j : ℕ) (dir at n end : ℕ) (low : S) → read_blocks o f bs n dir at low j ≡ Ok end → (m : ℕ) → m ≤ j → (vs : List R) → length vs ≡ n → (standing : StandingAt S R) → Shows vs standing
      → Shows (blocks_played f bs dir at vs m) (played standing (take m (stated_jobs o f bs dir at j)))
  plays zero dir at n end low q zero c vs l standing h x = h x
  plays (suc j) dir at n end low q zero c vs l standing h x = h x
  plays zero dir at n end low q (suc m) c vs l standing h x = absurd (omega arith)
  plays (suc j) dir at n end low q (suc m) c vs l standing h x =
      let z = first_says o f bs dir at n j end low q in
      let s = z.block in
      let rest : List (AcceptedJob S R) = stated_jobs o f bs (dir + 8) (at + stated_length bs dir) j in
      plays j (dir + 8) (at + stated_length bs dir) n end z.opened.stamp z.rest m (omega arith)
      (block_played f bs at vs) (block_length_kept at vs ∙ l) (after_job (stated_job o f bs at s.stamp) standing) (block_shows at n (stated_length bs dir) low z.opened vs standing s z.pair.within l h s.stamp) x
      ∙ ap (λ u. value_at (played standing (take (suc m) (seen_job o f bs at u rest))) x) (sym s.stamped)

module _ {S R : Type 0} (o : Order S) (k : RecordKind R) (bs : List ℕ) where
  pub plays_at : (h : Heading) (space : List R) (m : ℕ) → read_archive o k bs ≡ Ok h → length space ≡ h.records → m ≤ h.jobs
      → Shows (play_leaves k.form bs (read_archive o k bs) space m) (played (at_opening o (stated_opening o k bs)) (take m (stated_journal o k bs)))
  plays_at h space m q l c x =
      let z = archive_says o k bs h q in
      let n : ℕ = stated_records bs in
      let j : ℕ = stated_count bs in
      let stated : Heading = record { records = stated_records bs; jobs = stated_count bs } in
      let room : room_right stated (length space) m ≡ true =
      subst (λ (y : Heading). room_right y (length space) m ≡ true) (sym z.heading) (and_from (eqb (length space) h.records) (leb m h.jobs) (eq-eqb _ _ l) (le-leb _ _ c)) in
      ap (λ r. slice_get (play_leaves k.form bs r space m) x) (q ∙ ap Ok (sym z.heading))
      ∙ ap (λ t. slice_get (cond t (blocks_played k.form bs 20 (20 + 8 * j + 12 * n) (stated_values k.form bs (20 + 8 * j) 12 n) m) space) x) room
      ∙ plays o k.form bs j 20 (20 + 8 * j + 12 * n) n z.end o.least z.blocks m (subst (λ (y : Heading). m ≤ y.jobs) (sym z.heading) c)
      (stated_opening o k bs) (values_long k.form bs n (20 + 8 * j) z.values) (at_opening o (stated_opening o k bs)) (opening_shows o (stated_opening o k bs)) x

pub plays_stated : {S R : Type 0} (o : Order S) (k : RecordKind R) → PlaysWhatIsStated o k
plays_stated o k bs h space m t q l c x = plays_at o k bs h space m q l c x
