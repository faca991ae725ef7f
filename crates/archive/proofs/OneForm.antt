-- One form only: an accepted archive is what is written for what it states.
use Rattle.std.proofs.Common.{◌≡◌, ℕ, zero, suc, ◌+◌, ◌*◌, ◌≤◌, true, eqb, List, [], ◌∷◌, ◌++◌, length, Ok, sym, refl, ap, ◌∙◌, subst, mul-suc, arith}
use Rattle.std.specs.List.{flat_map}
use Rattle.std.proofs.lemmas.List.{length-append, length-map}
use Rattle.std.proofs.lemmas.Bool.{eqb-true}
use Rattle.kinds.specs.Stamps.{Order, Ordered}
use Rattle.kinds.specs.Values.{RecordKind, Written}
use Rattle.kinds.specs.Bytes.{be4, Bytes}
use Rattle.kinds.specs.Forms.{Formed}
use Rattle.law.specs.Daybook.{AcceptedJob}
use Rattle.archive.specs.declared.fault.Fault.TheVariants.{PairWrong}
use Rattle.archive.specs.declared.heading.Heading.{Heading}
use Rattle.archive.specs.Heading.{heading_bytes}
use Rattle.archive.specs.Directory.{pairs_bytes, stated_length, read_pair, read_pairs}
use Rattle.archive.specs.Values.{values_bytes}
use Rattle.archive.specs.Blocks.{read_blocks}
use Rattle.archive.specs.Rule.{read_archive}
use Rattle.archive.specs.Journal.{block_bytes, block_lengths, archive_bytes, stated_records, stated_count, stated_opening, stated_journal}
use Rattle.archive.specs.Theorems.{OneForm}
use Rattle.archive.proofs.Long.{values_long}
use Rattle.archive.proofs.KnownBlocks.{first_says}
use Rattle.archive.proofs.KnownArchive.{archive_says, inspected_says}
use Rattle.archive.proofs.Stands.{Stands, join, all_of}
use Rattle.archive.proofs.Fields.{guarded, bound, ok_same}
use Rattle.archive.proofs.KnownPairs.{pair_says}
use Rattle.archive.proofs.Forth.{heading_stands, pair_stands, values_stand, values_length}
use Rattle.archive.proofs.ForthBlocks.{blocks_stand}

pub pairs_long : (at : ℕ) (ns : List ℕ) → length (pairs_bytes at ns) ≡ 8 * length ns
pairs_long at [] = refl
pairs_long at (n ∷ ns) = let i = pairs_long (at + n) ns in let m = mul-suc 8 (length ns) in omega arith

module _ {S R : Type 0} (o : Order S) (k : RecordKind R) (laws : Formed 8 o.form) (formed : Formed 12 k.form) (bs : List ℕ) (t : Bytes bs) where
  blocks_end : (m dir at n end : ℕ) (low : S) → read_blocks o k.form bs n dir at low (suc m) ≡ Ok end → end ≡ length bs
  blocks_end zero dir at n end low q =
      let z = first_says o k.form bs dir at n zero end low q in
      sym (ok_same (at + stated_length bs dir) end z.rest) ∙ z.pair.closes refl
  blocks_end (suc m) dir at n end low q =
      let z = first_says o k.form bs dir at n (suc m) end low q in
      blocks_end m (dir + 8) (at + stated_length bs dir) n end z.opened.stamp z.rest

  archive_end : (j dir at n end : ℕ) (low : S) → read_blocks o k.form bs n dir at low j ≡ Ok end → (eqb j 0 ≡ true → at ≡ length bs) → end ≡ length bs
  archive_end zero dir at n end low q e = sym (ok_same at end q) ∙ e refl
  archive_end (suc m) dir at n end low q e = blocks_end m dir at n end low q

  -- the bytes, with the numbers as the heading says them
  abbrev Made : ℕ → ℕ → List R → List (AcceptedJob S R) → List ℕ
  Made n j vs js = heading_bytes o.number k.number n j ++ (pairs_bytes (20 + 8 * j) (12 * n ∷ block_lengths o k.form js) ++ (values_bytes k.form vs ++ flat_map (block_bytes o k.form) js))

  put_together : (n j end : ℕ) (vs : List R) (js : List (AcceptedJob S R)) → Stands bs 0 (heading_bytes o.number k.number n j)
      → Stands bs 12 (be4 (20 + 8 * j) ++ be4 (12 * n)) → Stands bs 20 (pairs_bytes (20 + 8 * j + 12 * n) (block_lengths o k.form js))
      → Stands bs (20 + 8 * j) (values_bytes k.form vs) → length vs ≡ n → Stands bs (20 + 8 * j + 12 * n) (flat_map (block_bytes o k.form) js) → length js ≡ j
      → 20 + 8 * j + 12 * n + length (flat_map (block_bytes o k.form) js) ≡ length bs → bs ≡ archive_bytes o k vs js
  put_together n j end vs js h p ps v lv b lj e =
      let ns : List ℕ = block_lengths o k.form js in
      let vb : List ℕ = values_bytes k.form vs in
      let jb : List ℕ = flat_map (block_bytes o k.form) js in
      let pb : List ℕ = pairs_bytes (20 + 8 * j) (12 * n ∷ ns) in
      let lvb : length vb ≡ 12 * n = values_length k.form formed vs ∙ ap (λ m. 12 * m) lv in
      let lns : length ns ≡ j = length-map js (λ j. length (block_bytes o k.form j)) ∙ lj in
      let lpb : length pb ≡ 8 + 8 * j = pairs_long (20 + 8 * j) (12 * n ∷ ns) ∙ mul-suc 8 (length ns) ∙ flip (length ns) j lns in
      let s1 : Stands bs (20 + 8 * j) (vb ++ jb) = join bs (20 + 8 * j) vb jb v (subst (λ (m : ℕ). Stands bs (20 + 8 * j + m) jb) (sym lvb) b) in
      let s2 : Stands bs 12 pb = join bs 12 (be4 (20 + 8 * j) ++ be4 (12 * n)) (pairs_bytes (20 + 8 * j + 12 * n) ns) p ps in
      let s3 : Stands bs 12 (pb ++ (vb ++ jb)) = join bs 12 pb (vb ++ jb) s2 (subst (λ (m : ℕ). Stands bs m (vb ++ jb)) (place (length pb) j lpb) s1) in
      let all : Stands bs 0 (Made n j vs js) = join bs 0 (heading_bytes o.number k.number n j) (pb ++ (vb ++ jb)) h s3 in
      let la = length-append pb (vb ++ jb) in
      let lb = length-append vb jb in
      let long : length bs ≡ length (Made n j vs js) = total (length bs) (length (pb ++ (vb ++ jb))) (length pb) (length (vb ++ jb)) (length vb) (length jb) n j la lb lpb lvb e in
      all_of bs (Made n j vs js) all long ∙ ap (λ m. Made m j vs js) (sym lv) ∙ ap (λ m. Made (length vs) m vs js) (sym lj)
    where
      flip : (a j : ℕ) → a ≡ j → 8 * a + 8 ≡ 8 + 8 * j
      flip a j e = omega arith

      place : (l j : ℕ) → l ≡ 8 + 8 * j → 20 + 8 * j ≡ 12 + l
      place l j e = omega arith

      total : (b x l y v w n j : ℕ) → x ≡ l + y → y ≡ v + w → l ≡ 8 + 8 * j → v ≡ 12 * n → 20 + 8 * j + 12 * n + w ≡ b → b ≡ suc (suc (suc (suc (suc (suc (suc (suc (suc (suc (suc (suc x)))))))))))
      total b x l y v w n j p q r s e = omega arith

  pub archive_met : (x : Heading) → read_archive o k bs ≡ Ok x
      → (bs ≡ archive_bytes o k (stated_opening o k bs) (stated_journal o k bs)) × (length (stated_journal o k bs) ≡ x.jobs)
  archive_met x q =
      let z = archive_says o k bs x q in
      let a = bound (read_pair bs 12 (20 + 8 * stated_count bs) (eqb (stated_count bs) 0)) _ z.last z.directory in
      let p = pair_says bs 12 (20 + 8 * stated_count bs) a.0 (eqb (stated_count bs) 0) a.1 in
      let c = guarded (eqb a.0 (20 + 8 * stated_count bs + 12 * stated_records bs)) (read_pairs bs 20 a.0 (stated_count bs)) (PairWrong 12) z.last a.2 in
      let s = pair_stands bs t 12 (20 + 8 * stated_count bs) a.0 (eqb (stated_count bs) 0) p in
      let first : a.0 ≡ 20 + 8 * stated_count bs + 12 * stated_records bs = eqb-true _ _ c.0 in
      let l12 : stated_length bs 12 ≡ 12 * stated_records bs = cut (20 + 8 * stated_count bs) _ _ (p.ends ∙ first) in
      let fits : 20 + 8 * stated_count bs + 12 * stated_records bs ≤ length bs = subst (λ (m : ℕ). m ≤ length bs) first p.within in
      let vals = values_stand bs t k.form formed (stated_records bs) (20 + 8 * stated_count bs) fits z.values in
      let blks = blocks_stand o k.form laws formed bs t (stated_count bs) 20 (20 + 8 * stated_count bs + 12 * stated_records bs) (stated_records bs) z.end o.least z.blocks in
      let ends = archive_end (stated_count bs) 20 (20 + 8 * stated_count bs + 12 * stated_records bs) (stated_records bs) z.end o.least z.blocks (λ l. sym first ∙ p.closes l) in (
        put_together (stated_records bs) (stated_count bs) z.end (stated_opening o k bs) (stated_journal o k bs) (heading_stands bs t o.number k.number z.marked z.sizes)
            (subst (λ (m : ℕ). Stands bs 12 (be4 (20 + 8 * stated_count bs) ++ be4 m)) l12 s) blks.0 vals (values_long k.form bs (stated_records bs) (20 + 8 * stated_count bs) z.values) blks.1 blks.2 (blks.3 ∙ ends),
        blks.2 ∙ ap (λ (h : Heading). h.jobs) z.heading,
      )
    where
      cut : (a x y : ℕ) → a + x ≡ a + y → x ≡ y
      cut a x y e = omega arith

pub one_form : {S R : Type 0} (o : Order S) (k : RecordKind R) → Ordered o → Written k → OneForm o k
one_form o k laws formed bs j t q =
    let a = inspected_says o k bs j q in
    let m = archive_met o k laws.formed formed bs t a.heading a.read in
    (m.0, m.1 ∙ a.count)
