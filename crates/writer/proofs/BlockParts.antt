-- The parts of a block: there is room for its looks and its puts behind its front, and all three are the block.
use Rattle.std.proofs.Common.{◌≡◌, ℕ, ◌+◌, List, length, ap, ◌∙◌, arith}
use Rattle.std.specs.List.{flat_map}
use Rattle.kinds.specs.Forms.{Form, Formed}
use Rattle.kinds.specs.Stamps.{Order}
use Rattle.model.specs.declared.entry.Entry.{Entry}
use Rattle.writer.specs.declared.laying.Pen.{Pen}
use Rattle.writer.specs.Blocks.{look_count, put_count, front_bytes, block_in, look_in, put_in_entry, looks_in, puts_in}
use Rattle.writer.specs.Pens.{HasRoom, Lays}
use Rattle.writer.proofs.Pens.{lays_as, lays_room, lays_three}
use Rattle.writer.proofs.Entries.{block_split, block_long, front_wide, looks_laid, puts_laid}

module _ {S R : Type 0} (o : Order S) (f : Form R) (s : S) (ticket : ℕ) (es : List (Entry S R)) (formed : Formed 8 o.form) where
  abbrev looks : List ℕ
  looks = flat_map (look_in o f) es

  abbrev puts : List ℕ
  puts = flat_map (put_in_entry o f) es

  -- behind a front of these numbers of looks and puts
  module _ (p : Pen) (room : HasRoom p (length (block_in o f s ticket es))) (q : Pen) (r n : ℕ) (a : Lays p (front_bytes o s ticket r n) q) where
    behind_front : HasRoom q (length looks + length puts)
    behind_front =
        let b = block_long o f s ticket es formed in
        let w = front_wide o f s ticket es formed r n in
        let l = ap length (looks_laid o f es) in
        let m = ap length (puts_laid o f es) in
        lays_room p q (front_bytes o s ticket r n) (length looks + length puts) (omega (arith, b, w, l, m, room)) a

    pub looks_room : HasRoom q (length looks)
    looks_room = omega (arith, behind_front)

    module _ (t : Pen) (b : Lays q looks t) where
      pub puts_room : HasRoom t (length puts)
      puts_room = lays_room q t looks (length puts) behind_front b

      pub block_laid : r ≡ look_count es → n ≡ put_count es → (u : Pen) → Lays t puts u → Lays p (block_in o f s ticket es) u
      block_laid e i u d =
          let x = block_long o f s ticket es formed in
          let w = front_wide o f s ticket es formed (look_count es) (put_count es) in
          lays_as p u _ _ (block_split o f s ticket es)
          (lays_three p q t u (front_bytes o s ticket (look_count es) (put_count es)) (looks_in o f es) (puts_in o f es) (omega (arith, x, w, room))
          (lays_as p q _ _ (ap (λ k. front_bytes o s ticket k n) e ∙ ap (front_bytes o s ticket (look_count es)) i) a)
          (lays_as q t _ _ (looks_laid o f es) b) (lays_as t u _ _ (puts_laid o f es) d))
