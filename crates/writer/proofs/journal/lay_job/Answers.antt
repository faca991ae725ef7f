use Rattle.std.proofs.Common.{length, ap, arith}
use Rattle.writer.specs.Blocks.{block_in}
use Rattle.writer.proofs.Pens.{lays_as}
use Rattle.writer.proofs.journal.lay_job.Goals as goal

pub lay_block-requires : goal.lay_block-requires
lay_block-requires g c =
    let n = ap (λ es. length (block_in g.S.Stamp.kind.order g.R.Record.kind.form c.args.head.stamp c.args.head.ticket es)) c.entries.ensures.entries in
    (c.entries.ensures.few, omega (arith, n, c.requires))

pub returns : goal.returns
returns g c =
    lays_as c.args.pen.now c.lay_block.new.pen _ _ (ap (block_in g.S.Stamp.kind.order g.R.Record.kind.form c.args.head.stamp c.args.head.ticket) c.entries.ensures.entries) c.lay_block.ensures
