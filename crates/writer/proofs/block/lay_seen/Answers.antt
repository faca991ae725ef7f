use Rattle.std.proofs.Common.{arith}
use Rattle.kinds.specs.Bytes.{be2}
use Rattle.writer.proofs.Pens.{lays_as, lays_three}
use Rattle.writer.proofs.block.lay_seen.Goals as goal

pub returns : goal.returns
returns g c =
    let w = g.met.S.Stamp.lawful.ordered.formed.wide c.args.noted in
    lays_three c.args.pen.now c.lay.new.self c.lay-2.new.self c.lay-3.new.self (be2 c.args.number) (g.S.Stamp.kind.order.form.written c.args.noted) (g.R.Record.kind.form.written c.args.saw) (omega arith)
    (lays_as c.args.pen.now c.lay.new.self _ _ c.two.ensures c.lay.ensures)
    (lays_as c.lay.new.self c.lay-2.new.self _ _ c.to_bytes.ensures c.lay-2.ensures)
    (lays_as c.lay-2.new.self c.lay-3.new.self _ _ c.to_bytes-2.ensures c.lay-3.ensures)
