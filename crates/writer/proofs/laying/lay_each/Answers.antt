use Rattle.std.proofs.Common.{arith}
use Rattle.writer.proofs.Pens.{parts_room, parts_more}
use Rattle.writer.proofs.laying.lay_each.Goals as goal

pub lay_one-requires : goal.lay_one-requires
lay_one-requires g c =
    parts_room g.P.Part.written c.args.items.now c.args.pen.now c.loop-item.pen c.loop-item.item-index c.item-item.result (omega arith) c.item-item.is c.requires c.loop-item.invariant

pub loop-item-preserved : goal.loop-item-preserved
loop-item-preserved g c =
    parts_more g.P.Part.written c.args.items.now c.args.pen.now c.loop-item.pen c.loop-item.item-index c.lay_one.new.pen c.item-item.result (omega arith) c.item-item.is c.requires c.loop-item.invariant c.lay_one.ensures
