use Rattle.std.proofs.Common.{arith}
use Rattle.writer.proofs.Pens.{parts_long}
use Rattle.writer.specs.Jobs.{block_of}
use Rattle.writer.proofs.journal.blocks_len.Goals as goal

pub loop-head-preserved : goal.loop-head-preserved
loop-head-preserved g c =
    let n = parts_long (block_of g.S.Stamp.kind.order g.R.Record.kind.form c.args.lines.now) c.args.heads.now c.loop-head.head-index c.head-item.result (omega arith) c.head-item.is in
    (omega (arith, n, c.job_len-total.ensures.long), omega arith)
