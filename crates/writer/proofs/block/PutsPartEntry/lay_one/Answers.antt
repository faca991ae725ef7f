use Rattle.std.proofs.Common.{◌≡◌, ap, sym, cond, [], ◌++◌, length, arith}
use Rattle.kinds.specs.Bytes.{be2}
use Rattle.writer.specs.Blocks.{put_in_entry}
use Rattle.writer.proofs.Pens.{lays_as, lays_both}
use Rattle.writer.proofs.block.PutsPartEntry.lay_one.Goals as goal

pub returns-then-item : goal.returns-then-item
returns-then-item g c =
    let f = g.R.Record.kind.form in
    let e : be2 c.args.item.number ++ f.written c.args.item.wrote ≡ put_in_entry g.S.Stamp.kind.order f c.args.item =
    ap (λ b. cond b (be2 c.args.item.number ++ f.written c.args.item.wrote) []) (sym c.if-item.true) in
    let l = ap length e in
    lays_as c.args.pen.now c.lay-then-item.new.self _ _ e
    (lays_both c.args.pen.now c.lay.new.self c.lay-then-item.new.self (be2 c.args.item.number) (f.written c.args.item.wrote) (omega (arith, l))
    (lays_as c.args.pen.now c.lay.new.self _ _ c.two.ensures c.lay.ensures)
    (lays_as c.lay.new.self c.lay-then-item.new.self _ _ c.to_bytes.ensures c.lay-then-item.ensures))
