-- The pairs and blocks of sound jobs, read in turn.
use Rattle.std.proofs.Common.{◌≡◌, ℕ, suc, ◌+◌, ◌-◌, ◌<◌, ◌≤◌, Bool, true, false, cond, eqb, List, [], ◌∷◌, ◌++◌, length, Ok, Err, sym, refl, ap, ◌∙◌, subst, arith}
use Rattle.std.specs.List.{AllByRecursion, flat_map}
use Rattle.std.proofs.lemmas.List.{length-append}
use Rattle.std.proofs.lemmas.Bool.{and_from, cond-true, eq-eqb, eqb-true, le-leb}
use Rattle.kinds.specs.Bytes.{be4, number4, part}
use Rattle.kinds.specs.Forms.{Form, Formed}
use Rattle.kinds.specs.Stamps.{Order, Ordered, Same}
use Rattle.kinds.specs.Bounds.{NotAfter}
use Rattle.law.specs.Daybook.{AcceptedJob}
use Rattle.law.specs.Account.{NeverFalls}
use Rattle.law.specs.Promises.{NeatJob}
use Rattle.archive.specs.declared.fault.Fault.TheVariants.{PairWrong}
use Rattle.archive.specs.declared.blocks.Opened.{Opened}
use Rattle.archive.specs.Faults.{onward}
use Rattle.archive.specs.Directory.{pairs_bytes, stated_length, pair_right, read_pair, read_pairs}
use Rattle.archive.specs.Blocks.{read_block, read_blocks}
use Rattle.archive.specs.Journal.{block_bytes, block_lengths, stated_job, seen_job, stated_jobs}
use Rattle.archive.proofs.Stands.{Stands, first, second}
use Rattle.archive.proofs.Fields.{reads4}
use Rattle.readback.specs.ReadsBack.{Each, AlikeJob}
use Rattle.readback.proofs.BackFields.{within}
use Rattle.readback.proofs.BackParts.{block_parts}
use Rattle.readback.proofs.BackBlock.{length_of, BlockBack, block_back}

pub gap : (at m : ℕ) → at + m - at ≡ m
gap at m = omega arith

-- a pair that stands at a place
module _ (bs : List ℕ) where
  pub record PairBack (at from n : ℕ) (last : Bool) : Type 0 where
    pub read : read_pair bs at from last ≡ Ok (from + n)
    pub stated : stated_length bs at ≡ n

  ends : (m : ℕ) (last : Bool) → (last ≡ true → m ≡ length bs) → cond last (eqb m (length bs)) true ≡ true
  ends m true q = eq-eqb m (length bs) (q refl)
  ends m false q = refl

  pub pair_back : (at from n : ℕ) (last : Bool) → Stands bs at (be4 from ++ be4 n) → length bs < 4294967296 → from + n ≤ length bs → (last ≡ true → from + n ≡ length bs) → PairBack at from n last
  pair_back at from n last p small l e =
      let a : number4 (part bs at 4) ≡ from = reads4 bs at from (omega arith) (first bs at (be4 from) (be4 n) p) in
      let b : stated_length bs at ≡ n = reads4 bs (at + 4) n (omega arith) (second bs at (be4 from) (be4 n) p) in
      let w : at + 8 ≤ length bs = within bs at (be4 from ++ be4 n) (omega arith) p in
      let right : pair_right bs at from last ≡ true
      = and_from _ _ (le-leb (at + 8) (length bs) w) (and_from _ _ (eq-eqb _ _ a) (and_from _ _ (le-leb _ _ (subst (λ (m : ℕ). from + m ≤ length bs) (sym b) l)) (ends (from + stated_length bs at) last (λ q. ap (λ m. from + m) b ∙ e q)))) in
      record {
        read = cond-true (pair_right bs at from last) (Ok (from + stated_length bs at)) (Err (PairWrong at)) right ∙ ap (λ m. Ok (from + m)) b;
        stated = b;
      }

module _ {S R : Type 0} (o : Order S) (f : Form R) (bs : List ℕ) (n : ℕ) where
  -- a job's pair and block, and then those of the jobs behind it
  pub record Step (dir at : ℕ) (low : S) (a : AcceptedJob S R) (last : Bool) : Type 0 where
    pub pair : PairBack bs dir at (length_of o f bs a) last
    pub block : BlockBack o f bs n at low a

  abbrev pub Walk : ℕ → ℕ → S → List (AcceptedJob S R) → Type 0
  Walk dir at low [] = Unit {0}
  Walk dir at low (a ∷ js) = (s : Step dir at low a (eqb (length js) 0)) × Walk (dir + 8) (at + length_of o f bs a) s.block.stamp js

  pub none_behind : (js : List (AcceptedJob S R)) → eqb (length js) 0 ≡ true → length (flat_map (block_bytes o f) js) ≡ 0
  none_behind [] e = refl
  none_behind (a ∷ js) e = let z = eqb-true (suc (length js)) 0 e in omega arith

  pub walk : Ordered o → Formed 12 f → n ≤ 65536 → length bs < 4294967296 → (js : List (AcceptedJob S R)) (dir at : ℕ) (low prev : S) → Same o low prev
      → AllByRecursion (λ (a : AcceptedJob S R). NotAfter o prev a.stamp) js → NeverFalls o js → AllByRecursion (NeatJob o n) js → AllByRecursion (λ (a : AcceptedJob S R). a.ticket < 4294967296) js
      → Stands bs dir (pairs_bytes at (block_lengths o f js)) → Stands bs at (flat_map (block_bytes o f) js) → at + length (flat_map (block_bytes o f) js) ≡ length bs → Walk dir at low js
  walk laws formed some small [] dir at low prev same after falls neat tickets pairs blocks e = tt
  walk laws formed some small (a ∷ js) dir at low prev same after falls neat tickets pairs blocks e =
      let len : ℕ = length_of o f bs a in
      let rest : List ℕ = flat_map (block_bytes o f) js in
      let l = length-append (block_bytes o f a) rest in
      let parts = block_parts o f bs laws.formed formed at a (first bs at (block_bytes o f a) rest blocks) in
      let b : BlockBack o f bs n at low a = block_back o f bs laws formed n some at low prev a same after.0 neat.0 tickets.0 parts in
      let p : PairBack bs dir at len (eqb (length js) 0)
      = pair_back bs dir at len (eqb (length js) 0) (first bs dir (be4 at ++ be4 len) (pairs_bytes (at + len) (block_lengths o f js)) pairs) small (omega arith) (λ q. let z = none_behind js q in omega arith) in (
        record { pair = p; block = b },
        walk laws formed some small js (dir + 8) (at + len) b.stamp a.stamp b.alike falls.0 falls.1 neat.1 tickets.1
            (second bs dir (be4 at ++ be4 len) (pairs_bytes (at + len) (block_lengths o f js)) pairs) (second bs at (block_bytes o f a) rest blocks) (omega arith),
      )

  -- the pairs are right
  pub pairs_walked : (js : List (AcceptedJob S R)) (dir at : ℕ) (low : S) → Walk dir at low js → (end : ℕ) × (read_pairs bs dir at (length js) ≡ Ok end)
  pairs_walked [] dir at low w = (at, refl)
  pairs_walked (a ∷ js) dir at low w =
      let i = pairs_walked js (dir + 8) (at + length_of o f bs a) w.0.block.stamp w.1 in
      (i.0, ap (λ r. onward r (λ end. read_pairs bs (dir + 8) end (length js))) w.0.pair.read ∙ i.1)

  -- the blocks are right
  pub blocks_walked : (js : List (AcceptedJob S R)) (dir at : ℕ) (low : S) → Walk dir at low js → (end : ℕ) × (read_blocks o f bs n dir at low (length js) ≡ Ok end)
  blocks_walked [] dir at low w = (at, refl)
  blocks_walked (a ∷ js) dir at low w =
      let len : ℕ = length_of o f bs a in
      let i = blocks_walked js (dir + 8) (at + len) w.0.block.stamp w.1 in (
        i.0,
        ap (λ r. onward r (λ end. onward (read_block o f bs n at (end - at) low) (λ (h : Opened S). read_blocks o f bs n (dir + 8) end h.stamp (length js)))) w.0.pair.read
            ∙ ap (λ m. onward (read_block o f bs n at m low) (λ (h : Opened S). read_blocks o f bs n (dir + 8) (at + len) h.stamp (length js))) (gap at len)
            ∙ ap (λ r. onward r (λ (h : Opened S). read_blocks o f bs n (dir + 8) (at + len) h.stamp (length js))) w.0.block.block
            ∙ i.1,
      )

  -- and they state the jobs
  pub jobs_walked : (js : List (AcceptedJob S R)) (dir at : ℕ) (low : S) → Walk dir at low js → Each (AlikeJob o f) (stated_jobs o f bs dir at (length js)) js
  jobs_walked [] dir at low w = tt
  jobs_walked (a ∷ js) dir at low w =
      let len : ℕ = length_of o f bs a in
      let e : stated_jobs o f bs dir at (suc (length js)) ≡ stated_job o f bs at w.0.block.stamp ∷ stated_jobs o f bs (dir + 8) (at + len) (length js)
      = ap (λ s. seen_job o f bs at s (stated_jobs o f bs (dir + 8) (at + stated_length bs dir) (length js))) w.0.block.is
      ∙ ap (λ m. stated_job o f bs at w.0.block.stamp ∷ stated_jobs o f bs (dir + 8) (at + m) (length js)) w.0.pair.stated in
      subst (λ xs. Each (AlikeJob o f) xs (a ∷ js)) (sym e) (w.0.block.stated, jobs_walked js (dir + 8) (at + len) w.0.block.stamp w.1)
