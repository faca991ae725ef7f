-- The parts of a block that stands at a place.
use Rattle.std.proofs.Common.{◌≡◌, ℕ, ◌+◌, ◌*◌, List, [], ◌∷◌, ◌++◌, length, arith}
use Rattle.std.specs.List.{flat_map}
use Rattle.kinds.specs.Bytes.{be4}
use Rattle.kinds.specs.Forms.{Form, Formed}
use Rattle.kinds.specs.Stamps.{Order}
use Rattle.law.specs.Daybook.{AcceptedJob}
use Rattle.archive.specs.Journal.{look_bytes, put_bytes, block_bytes}
use Rattle.archive.proofs.Stands.{Stands, first, second, moved, behind}
use Rattle.archive.proofs.Long.{looks_long}

module _ {S R : Type 0} (o : Order S) (f : Form R) (bs : List ℕ) where
  -- the parts of a block, each at its place
  pub record BlockParts (at : ℕ) (a : AcceptedJob S R) : Type 0 where
    pub stamp : Stands bs at (o.form.written a.stamp)
    pub ticket : Stands bs (at + 8) (be4 a.ticket)
    pub sizes : Stands bs (at + 12) (length a.looks ∷ length a.puts ∷ 0 ∷ 0 ∷ [])
    pub looks : Stands bs (at + 16) (flat_map (look_bytes o f) a.looks)
    pub puts : Stands bs (at + 16 + 22 * length a.looks) (flat_map (put_bytes o f) a.puts)

  pub block_parts : Formed 8 o.form → Formed 12 f → (at : ℕ) (a : AcceptedJob S R) → Stands bs at (block_bytes o f a) → BlockParts at a
  block_parts laws formed at a p =
      let ls : List ℕ = flat_map (look_bytes o f) a.looks in
      let ps : List ℕ = flat_map (put_bytes o f) a.puts in
      let sizes : List ℕ = length a.looks ∷ length a.puts ∷ 0 ∷ 0 ∷ [] in
      let w : List ℕ = o.form.written a.stamp in
      let s1 : Stands bs (at + 8) (be4 a.ticket ++ (sizes ++ (ls ++ ps))) = behind bs at 8 w (be4 a.ticket ++ (sizes ++ (ls ++ ps))) (laws.wide a.stamp) p in
      let s2 : Stands bs (at + 12) (sizes ++ (ls ++ ps)) = moved bs (sizes ++ (ls ++ ps)) (plus at 8 4) (second bs (at + 8) (be4 a.ticket) (sizes ++ (ls ++ ps)) s1) in
      let s3 : Stands bs (at + 16) (ls ++ ps) = moved bs (ls ++ ps) (plus at 12 4) (second bs (at + 12) sizes (ls ++ ps) s2) in
      record {
        stamp = first bs at w (be4 a.ticket ++ (sizes ++ (ls ++ ps))) p;
        ticket = first bs (at + 8) (be4 a.ticket) (sizes ++ (ls ++ ps)) s1;
        sizes = first bs (at + 12) sizes (ls ++ ps) s2;
        looks = first bs (at + 16) ls ps s3;
        puts = behind bs (at + 16) (22 * length a.looks) ls ps (looks_long o f laws formed a.looks) s3;
      }
    where
      plus : (a b c : ℕ) → a + b + c ≡ a + (b + c)
      plus a b c = omega arith
