-- The entries of the journal's heads, and the pairs and blocks that they make.
use Rattle.std.proofs.Common.{◌≡◌, ℕ, ◌+◌, ◌*◌, ◌<◌, ◌≤◌, List, [], ◌∷◌, ◌++◌, length, get_or, take, sym, ap, ◌∙◌, arith}
use Rattle.std.specs.List.{sum}
use Rattle.std.proofs.lemmas.List.{length-map, length-take-le, map_more}
use Rattle.std.proofs.lemmas.List.Sums.{sum-map, sum_by-cons}
use Rattle.std.proofs.lemmas.List.Concat.{length-flat_map}
use Rattle.kinds.specs.Bytes.{be4}
use Rattle.kinds.specs.Forms.{Form}
use Rattle.kinds.specs.Stamps.{Order}
use Rattle.model.specs.declared.entry.Entry.{Entry}
use Rattle.registrar.specs.declared.journal.Head.{Head}
use Rattle.archive.specs.Directory.{pairs_bytes}
use Rattle.archive.proofs.OneForm.{pairs_long}
use Rattle.writer.specs.declared.laying.Pen.{Pen}
use Rattle.writer.specs.Pens.{HasRoom, Lays}
use Rattle.writer.specs.Jobs.{block_of, blocks_of, lengths_of}
use Rattle.writer.proofs.Pens.{lays_as, lays_room, lays_both}

-- the pair of a part behind others
pub pairs_behind : (from : ℕ) (ms : List ℕ) (n : ℕ) → pairs_bytes from ms ++ (be4 (from + sum ms) ++ be4 n) ≡ pairs_bytes from (ms ++ n ∷ [])
pairs_behind from [] n = ap (λ m. be4 m ++ be4 n) (omega arith)
pairs_behind from (m ∷ ms) n =
    let s = sum_by-cons (λ x. x) m ms in
    let e : from + sum (m ∷ ms) ≡ from + m + sum ms = omega arith in
    ap (λ k. be4 from ++ (be4 m ++ (pairs_bytes (from + m) ms ++ (be4 k ++ be4 n)))) e ∙ ap (λ zs. be4 from ++ (be4 m ++ zs)) (pairs_behind (from + m) ms n)

module _ {S R : Type 0} (o : Order S) (f : Form R) (lines : List (Entry S R)) where
  -- the lengths of blocks add up to that of all
  summed : (hs : List (Head S)) → sum (lengths_of o f lines hs) ≡ length (blocks_of o f lines hs)
  summed hs = sum-map (λ h. length (block_of o f lines h)) hs ∙ sym (length-flat_map (block_of o f lines) hs)

  lengths_next : (hs : List (Head S)) (i : ℕ) (h : Head S) → i < length hs → h ≡ get_or hs i h → lengths_of o f lines (take i hs) ++ length (block_of o f lines h) ∷ [] ≡ lengths_of o f lines (take (i + 1) hs)
  lengths_next hs i h l e =
      ap (λ j. lengths_of o f lines (take i hs) ++ length (block_of o f lines j) ∷ []) e ∙ sym (map_more (λ j. length (block_of o f lines j)) hs i h l)

  pairs_next : (first from len : ℕ) (hs : List (Head S)) (i : ℕ) (h : Head S) → i < length hs → h ≡ get_or hs i h
      → from ≡ first + length (blocks_of o f lines (take i hs)) → len ≡ length (block_of o f lines h)
      → pairs_bytes first (lengths_of o f lines (take i hs)) ++ (be4 from ++ be4 len) ≡ pairs_bytes first (lengths_of o f lines (take (i + 1) hs))
  pairs_next first from len hs i h l e p q =
      let s = summed (take i hs) in
      let r : from ≡ first + sum (lengths_of o f lines (take i hs)) = omega arith in
      ap (λ m. pairs_bytes first (lengths_of o f lines (take i hs)) ++ (be4 m ++ be4 len)) r
      ∙ ap (λ m. pairs_bytes first (lengths_of o f lines (take i hs)) ++ (be4 (first + sum (lengths_of o f lines (take i hs))) ++ be4 m)) q
      ∙ pairs_behind first (lengths_of o f lines (take i hs)) (length (block_of o f lines h))
      ∙ ap (pairs_bytes first) (lengths_next hs i h l e)

  pub lengths_long : (hs : List (Head S)) → length (lengths_of o f lines hs) ≡ length hs
  lengths_long hs = length-map hs (λ h. length (block_of o f lines h))

  pairs_taken : (first : ℕ) (hs : List (Head S)) (i : ℕ) → i ≤ length hs → length (pairs_bytes first (lengths_of o f lines (take i hs))) ≡ 8 * i
  pairs_taken first hs i l = pairs_long first (lengths_of o f lines (take i hs)) ∙ ap (λ m. 8 * m) (lengths_long (take i hs) ∙ length-take-le i hs l)

  pub pairs_room : (p q : Pen) (first : ℕ) (hs : List (Head S)) (i : ℕ) → i < length hs → HasRoom p (8 * length hs) → Lays p (pairs_bytes first (lengths_of o f lines (take i hs))) q → HasRoom q 8
  pairs_room p q first hs i l w a = let t = pairs_taken first hs i (omega arith) in lays_room p q (pairs_bytes first (lengths_of o f lines (take i hs))) 8 (omega arith) a

  pub pairs_more : (p q r : Pen) (first from len : ℕ) (hs : List (Head S)) (i : ℕ) (h : Head S) → i < length hs → h ≡ get_or hs i h
      → from ≡ first + length (blocks_of o f lines (take i hs)) → len ≡ length (block_of o f lines h) → HasRoom p (8 * length hs)
      → Lays p (pairs_bytes first (lengths_of o f lines (take i hs))) q → Lays q (be4 from ++ be4 len) r → Lays p (pairs_bytes first (lengths_of o f lines (take (i + 1) hs))) r
  pairs_more p q r first from len hs i h l e s t w a b =
      let n = pairs_taken first hs i (omega arith) in
      lays_as p r _ _ (pairs_next first from len hs i h l e s t) (lays_both p q r (pairs_bytes first (lengths_of o f lines (take i hs))) (be4 from ++ be4 len) (omega arith) a b)
