use Rattle.std.proofs.Common.{◌+◌, ◌*◌, [], sym, ap, ◌∙◌, arith}
use Rattle.kinds.specs.Bytes.{number4, part}
use Rattle.archive.specs.Played.{blocks_played}
use Rattle.archive.proofs.Counting.{at_end}
use Rattle.archive.proofs.RowLaws.{row_of, in_row}
use Rattle.archive.proofs.Entering.{blocks_on}
use Rattle.archive.proofs.play.enter_blocks.Goals as goal

pub loop-pair-preserved : goal.loop-pair-preserved
loop-pair-preserved g c =
    let i = c.loop-pair.pair-index in
    let bs = c.args.archive.now.bytes.now in
    let r = row_of c.rows-pair-items.result.now 8 c.args.jobs 20 i bs [] c.rows-pair-items.ensures.rows (omega arith) in (
      blocks_on g.R.Record.kind.form bs c.loop-pair.from c.number_at-from.result c.loop-pair.space c.enter_block.new.space c.args.jobs i (omega arith)
          (c.number_at-from.ensures.value ∙ ap (λ xs. number4 (part xs 4 4)) r ∙ ap number4 (in_row 4 4 4 (20 + 8 * i) bs (omega arith))) c.enter_block.ensures ∙ c.loop-pair.invariant.0,
      omega (arith, c.number_at-from.ensures.small, c.loop-pair.invariant.1),
    )

pub returns : goal.returns
returns g c =
    sym (at_end (blocks_played g.R.Record.kind.form c.args.archive.now.bytes.now (20 + 8 * c.loop-pair.pair-index) c.loop-pair.from c.loop-pair.space) c.args.jobs c.loop-pair.pair-index (omega arith))
    ∙ c.loop-pair.invariant.0
