use Rattle.std.proofs.Common.{[], ◌∷◌, arith}
use Rattle.kinds.specs.Bytes.{be4}
use Rattle.writer.proofs.Pens.{lays_as, lays_three}
use Rattle.writer.proofs.block.lay_front.Goals as goal

pub returns : goal.returns
returns g c =
    let w = g.met.S.Stamp.lawful.ordered.formed.wide c.args.stamp in
    lays_three c.args.pen.now c.lay.new.self c.lay-2.new.self c.lay-3.new.self (g.S.Stamp.kind.order.form.written c.args.stamp) (be4 c.args.ticket) (c.args.looks ∷ c.args.puts ∷ 0 ∷ 0 ∷ []) (omega arith)
    (lays_as c.args.pen.now c.lay.new.self _ _ c.to_bytes.ensures c.lay.ensures)
    (lays_as c.lay.new.self c.lay-2.new.self _ _ c.to_be_bytes.ensures c.lay-2.ensures) c.lay-3.ensures
