use Rattle.std.proofs.Common.{length, arith}
use Rattle.archive.proofs.Entering.{loaded_more}
use Rattle.reader.proofs.reader.load.Goals as goal

pub loop-i-preserved : goal.loop-i-preserved
loop-i-preserved g c =
    loaded_more g.R.Record.kind.form c.args.bytes.now c.args.at (length c.args.space.now) c.loop-i.i c.in_ok-place.field-0 c.loop-i.space (omega arith) (omega arith) c.in_ok-place.ensures c.loop-i.invariant
