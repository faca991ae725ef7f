use Rattle.std.proofs.Common.{arith}
use Rattle.writer.proofs.Heads.{pairs_room, pairs_more}
use Rattle.writer.proofs.Pens.{parts_long}
use Rattle.writer.specs.Jobs.{block_of}
use Rattle.writer.proofs.journal.lay_pairs.Goals as goal

pub lay_pair-requires : goal.lay_pair-requires
lay_pair-requires g c =
    pairs_room g.S.Stamp.kind.order g.R.Record.kind.form c.args.lines.now c.args.pen.now c.loop-head.pen c.args.first c.args.heads.now c.loop-head.head-index (omega arith) c.requires.1.1 c.loop-head.invariant.0

pub loop-head-preserved : goal.loop-head-preserved
loop-head-preserved g c =
    let o = g.S.Stamp.kind.order in
    let f = g.R.Record.kind.form in
    let n = parts_long (block_of o f c.args.lines.now) c.args.heads.now c.loop-head.head-index c.head-item.result (omega arith) c.head-item.is in (
      pairs_more o f c.args.lines.now c.args.pen.now c.loop-head.pen c.lay_pair.new.pen c.args.first c.loop-head.from c.job_len-len.result c.args.heads.now c.loop-head.head-index c.head-item.result (omega arith) c.head-item.is
          c.loop-head.invariant.1.0 c.job_len-len.ensures.long c.requires.1.1 c.loop-head.invariant.0 c.lay_pair.ensures,
      (omega (arith, n, c.job_len-len.ensures.long), omega arith),
    )
