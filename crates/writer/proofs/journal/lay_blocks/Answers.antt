use Rattle.std.proofs.Common.{arith}
use Rattle.writer.specs.Jobs.{block_of}
use Rattle.writer.proofs.Pens.{parts_room, parts_more}
use Rattle.writer.proofs.journal.lay_blocks.Goals as goal

pub lay_job-requires : goal.lay_job-requires
lay_job-requires g c =
    parts_room (block_of g.S.Stamp.kind.order g.R.Record.kind.form c.args.lines.now) c.args.heads.now c.args.pen.now c.loop-head.pen c.loop-head.head-index c.head-item.result (omega arith) c.head-item.is c.requires c.loop-head.invariant

pub loop-head-preserved : goal.loop-head-preserved
loop-head-preserved g c =
    parts_more (block_of g.S.Stamp.kind.order g.R.Record.kind.form c.args.lines.now) c.args.heads.now c.args.pen.now c.loop-head.pen c.loop-head.head-index c.lay_job.new.pen c.head-item.result (omega arith) c.head-item.is c.requires c.loop-head.invariant c.lay_job.ensures
