-- One turn of the loop over blocks.
use Rattle.std.proofs.Common.{◌≡◌, ℕ, zero, suc, ◌+◌, ◌-◌, ◌*◌, ◌<◌, ◌≤◌, true, eqb, List, [], length, get_or, drop, Ok, Err, Result, refl, sym, ap, ◌∙◌, arith}
use Rattle.std.specs.Prelude.{is_ok}
use Rattle.std.specs.Simd.{first_chunks}
use Rattle.kinds.specs.Bytes.{number4, part}
use Rattle.kinds.specs.Stamps.{Order}
use Rattle.kinds.specs.Forms.{Form}
use Rattle.archive.specs.declared.fault.Fault.{Fault}
use Rattle.archive.specs.Faults.{onward}
use Rattle.archive.specs.Directory.{stated_length, read_pair, read_pairs}
use Rattle.archive.specs.Blocks.{read_block, read_blocks}
use Rattle.archive.proofs.Counting.{at_left, last, pairs_more}
use Rattle.archive.proofs.RowLaws.{pair_length}
use Rattle.archive.proofs.Fields.{bound, ok_same}
use Rattle.archive.proofs.KnownPairs.{pair_says}

-- where a reader and what follows it are right, both are
on_met : {A B : Type 0} (r : Result A Fault) (k : A → Result B Fault) → is_ok (onward r k) ≡ true → (x : A) × (r ≡ Ok x) × (is_ok (k x) ≡ true)
on_met (Ok x) k q = (x, refl, q)
on_met (Err e) k q = let z : ◌≡◌ {A = ℕ} 0 1 = cc in absurd (omega arith)

-- at the i-th of j jobs, whose block has this length
pub record Turn (bs : List ℕ) (from len i j : ℕ) : Type 0 where
  pub paired : ◌≡◌ {A = Result ℕ Fault} (Ok (from + len)) (read_pair bs (20 + 8 * i) from (eqb (i + 1) j))
  pub within : from + len ≤ length bs
  pub span : len ≡ from + len - from
  pub rest : is_ok (read_pairs bs (20 + 8 * (i + 1)) (from + len) (j - (i + 1))) ≡ true

pub turn : (bs : List ℕ) (rows : List (List ℕ)) (from len i j : ℕ) → i < j → rows ≡ first_chunks 8 j (drop 20 bs) → len ≡ number4 (part (get_or rows i []) 4 4)
    → is_ok (read_pairs bs (20 + 8 * i) from (j - i)) ≡ true → Turn bs from len i j
turn bs rows from len i j h r l q =
    let e : len ≡ stated_length bs (20 + 8 * i) = l ∙ pair_length bs rows j i r h in
    let t = on_met (read_pair bs (20 + 8 * i) from (eqb (i + 1) j)) (λ x. read_pairs bs (20 + 8 * (i + 1)) x (j - (i + 1))) (sym (ap is_ok (pairs_more bs from j i h)) ∙ q) in
    let p = pair_says bs (20 + 8 * i) from t.0 (eqb (i + 1) j) t.1 in
    let s : from + len ≡ t.0 = ap (λ k. from + k) e ∙ p.ends in
    record {
      paired = ap Ok s ∙ sym t.1;
      within = omega (arith, p.within, s);
      span = omega arith;
      rest = ap (λ x. is_ok (read_pairs bs (20 + 8 * (i + 1)) x (j - (i + 1)))) s ∙ t.2;
    }

pub blocks_more : {S R : Type 0} (k : Order S) (f : Form R) (bs : List ℕ) (n i j at : ℕ) (low : S) → i < j
    → read_blocks k f bs n (20 + 8 * i) at low (j - i)
    ≡ onward (read_pair bs (20 + 8 * i) at (eqb (i + 1) j)) (λ end. onward (read_block k f bs n at (end - at) low) (λ h. read_blocks k f bs n (20 + 8 * (i + 1)) end h.stamp (j - (i + 1))))
blocks_more k f bs n i j at low h =
    let a : 20 + 8 * i + 8 ≡ 20 + 8 * (i + 1) = omega arith in
    at_left (read_blocks k f bs n (20 + 8 * i) at low) j i h
    ∙ ap (λ b. onward (read_pair bs (20 + 8 * i) at b) (λ end. onward (read_block k f bs n at (end - at) low) (λ h. read_blocks k f bs n (20 + 8 * i + 8) end h.stamp (j - (i + 1))))) (last j i h)
    ∙ ap (λ m. onward (read_pair bs (20 + 8 * i) at (eqb (i + 1) j)) (λ end. onward (read_block k f bs n at (end - at) low) (λ h. read_blocks k f bs n m end h.stamp (j - (i + 1))))) a

-- the last pair's part ends with the archive
pairs_end : (bs : List ℕ) (m dir at e : ℕ) → Ok e ≡ read_pairs bs dir at (suc m) → e ≡ length bs
pairs_end bs zero dir at e q =
    let b = bound (read_pair bs dir at true) (λ x. Ok x) e (sym q) in
    sym (ok_same b.0 e b.2) ∙ (pair_says bs dir at b.0 true b.1).closes refl
pairs_end bs (suc m) dir at e q =
    let b = bound (read_pair bs dir at (eqb (suc m) 0)) (λ x. read_pairs bs (dir + 8) x (suc m)) e (sym q) in
    pairs_end bs m (dir + 8) b.0 e (sym b.2)

pub all_end : (bs : List ℕ) (j start first e : ℕ) → Ok first ≡ read_pair bs 12 start (eqb j 0) → Ok e ≡ read_pairs bs 20 first j → e ≡ length bs
all_end bs zero start first e p q = ok_same e first q ∙ (pair_says bs 12 start first true (sym p)).closes refl
all_end bs (suc m) start first e p q = pairs_end bs m 20 first e q
