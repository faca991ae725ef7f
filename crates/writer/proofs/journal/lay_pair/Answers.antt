use Rattle.std.proofs.Common.{arith}
use Rattle.kinds.specs.Bytes.{be4}
use Rattle.writer.proofs.Pens.{lays_as, lays_both}
use Rattle.writer.proofs.journal.lay_pair.Goals as goal

pub returns : goal.returns
returns c =
    lays_both c.args.pen.now c.lay.new.self c.lay-2.new.self (be4 c.args.from) (be4 c.args.len) (omega arith)
    (lays_as c.args.pen.now c.lay.new.self _ _ c.four.ensures c.lay.ensures) (lays_as c.lay.new.self c.lay-2.new.self _ _ c.four-2.ensures c.lay-2.ensures)
