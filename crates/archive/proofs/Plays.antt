-- One turn of each loop of the play.
use Rattle.std.proofs.Common.{◌≡◌, ℕ, zero, suc, ◌+◌, ◌-◌, ◌*◌, ◌<◌, ◌≤◌, cond, eqb, leb, List, [], ◌++◌, length, take, drop, refl, sym, ap, ◌∙◌, arith}
use Rattle.std.proofs.lemmas.List.{append_assoc, length-append, drop-drop, drop-take}
use Rattle.std.specs.Prelude.{fold}
use Rattle.std.specs.Simd.{first_chunks}
use Rattle.kinds.specs.Stamps.{Order}
use Rattle.kinds.specs.Bytes.{number2, part}
use Rattle.archive.specs.Faults.{onward}
use Rattle.archive.specs.Laying.{laid_over}
use Rattle.archive.specs.Directory.{read_pair}
use Rattle.archive.specs.Blocks.{read_front}
use Rattle.archive.specs.Play.{opening_table, read_looks, put_in, entered, puts_after, play_jobs}
use Rattle.archive.proofs.Counting.{at_left, last}
use Rattle.archive.proofs.Laid.{taken}
use Rattle.archive.proofs.RowLaws.{row_number}

-- a record more in the table
pub table_more : (least bs : List ℕ) (start n i : ℕ) (v d e : List ℕ) → i < n → length least ≡ 8 → length v ≡ 12 → 20 * i + 20 ≤ length d → v ≡ part bs (start + 12 * i) 12 → e ≡ laid_over (20 * i) (least ++ v) d
    → take (20 * (i + 1)) e ++ opening_table least bs (start + 12 * (i + 1)) (n - (i + 1)) ≡ take (20 * i) d ++ opening_table least bs (start + 12 * i) (n - i)
table_more least bs start n i v d e h l w r p q =
    let a : start + 12 * (i + 1) ≡ start + 12 * i + 12 = omega arith in
    let la = length-append least v in
    let b : 20 * (i + 1) ≡ 20 * i + length (least ++ v) = omega arith in
    let rest : List ℕ = opening_table least bs (start + 12 * i + 12) (n - (i + 1)) in
    ap (λ m. take (20 * (i + 1)) e ++ opening_table least bs m (n - (i + 1))) a
    ∙ ap (λ m. take m e ++ rest) b
    ∙ ap (λ zs. take (20 * i + length (least ++ v)) zs ++ rest) q
    ∙ ap (λ zs. zs ++ rest) (taken (20 * i) (least ++ v) [] d (omega arith))
    ∙ append_assoc (take (20 * i) d) (least ++ v) rest
    ∙ ap (λ u. take (20 * i) d ++ ((least ++ u) ++ rest)) p
    ∙ sym (at_left (λ m. take (20 * i) d ++ opening_table least bs (start + 12 * i) m) n i h)

-- the puts of rows, entered in turn
pub entered_rows : (bs : List ℕ) (block : ℕ) (stamp : List ℕ) → stamp ≡ part bs block 8 → (m at : ℕ) (table : List ℕ) → fold (entered stamp) table (first_chunks 14 m (drop at bs)) ≡ puts_after bs block at table m
entered_rows bs block stamp e zero at table = refl
entered_rows bs block stamp e (suc m) at table =
    ap (λ xs. fold (entered stamp) (entered stamp table (part bs at 14)) (first_chunks 14 m xs)) (drop-drop 14 at bs)
    ∙ entered_rows bs block stamp e m (at + 14) (entered stamp table (part bs at 14))
    ∙ ap (λ t. puts_after bs block (at + 14) t m) one
  where
    one : entered stamp table (part bs at 14) ≡ put_in bs block at table (number2 (part bs at 2))
    one =
        ap (λ s. entered s table (part bs at 14)) e
        ∙ ap (λ v. cond (leb (20 * number2 (part bs at 14) + 20) (length table)) (laid_over (20 * number2 (part bs at 14)) (part bs block 8 ++ v) table) table) (drop-take 2 12 (drop at bs) ∙ ap (take 12) (drop-drop 2 at bs))
        ∙ ap (λ x. cond (leb (20 * x + 20) (length table)) (laid_over (20 * x) (part bs block 8 ++ part bs (at + 2) 12) table) table) (sym (row_number 14 (drop at bs) (omega arith)))

module _ {S : Type 0} (o : Order S) (bs : List ℕ) where
  pub play_more : (i j at : ℕ) (low : S) (table : List ℕ) → i < j
      → play_jobs o bs (20 + 8 * i) at low table (j - i)
      ≡ onward (read_pair bs (20 + 8 * i) at (eqb (i + 1) j)) (λ end. onward (read_front o bs at (end - at) low) (λ h. onward (read_looks bs (at + 16) table h.looks) (λ _.
      play_jobs o bs (20 + 8 * (i + 1)) end h.stamp (puts_after bs at (at + 16 + 22 * h.looks) table h.puts) (j - (i + 1)))))
  play_more i j at low table h =
      let a : 20 + 8 * i + 8 ≡ 20 + 8 * (i + 1) = omega arith in
      at_left (play_jobs o bs (20 + 8 * i) at low table) j i h
      ∙ ap (λ b. onward (read_pair bs (20 + 8 * i) at b) (λ end. onward (read_front o bs at (end - at) low) (λ h. onward (read_looks bs (at + 16) table h.looks) (λ _.
      play_jobs o bs (20 + 8 * i + 8) end h.stamp (puts_after bs at (at + 16 + 22 * h.looks) table h.puts) (j - (i + 1)))))) (last j i h)
      ∙ ap (λ m. onward (read_pair bs (20 + 8 * i) at (eqb (i + 1) j)) (λ end. onward (read_front o bs at (end - at) low) (λ h. onward (read_looks bs (at + 16) table h.looks) (λ _.
      play_jobs o bs m end h.stamp (puts_after bs at (at + 16 + 22 * h.looks) table h.puts) (j - (i + 1)))))) a

  pub play_at : (dir at n : ℕ) (low : S) {d e : List ℕ} → d ≡ e → play_jobs o bs dir at low d n ≡ play_jobs o bs dir at low e n
  play_at dir at n low p = ap (λ xs. play_jobs o bs dir at low xs n) p
