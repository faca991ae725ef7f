use Rattle.std.proofs.Common.{Err, sym, ap, ◌∙◌, arith}
use Rattle.std.proofs.lemmas.Result.{err_from_is_err_and}
use Rattle.archive.specs.Blocks.{read_block}
use Rattle.archive.proofs.Counting.{met, refused}
use Rattle.archive.proofs.Steps.{turn, blocks_more}
use Rattle.archive.proofs.blocks.blocks.Goals as goal

pub block-requires : goal.block-requires
block-requires g c = let t = turn c.args.archive.now.bytes.now c.pairs-pair-items.result.now c.loop-pair.from c.number_at-len.result c.loop-pair.pair-index c.args.archive.now.stated.jobs (omega arith) c.pairs-pair-items.ensures.rows c.number_at-len.ensures.value c.loop-pair.invariant.1 in t.within

pub returns-in_err-h : goal.returns-in_err-h
returns-in_err-h g c =
    let p = err_from_is_err_and c.from_residual.result c.from_residual.ensures.1 in
    let t = turn c.args.archive.now.bytes.now c.pairs-pair-items.result.now c.loop-pair.from c.number_at-len.result c.loop-pair.pair-index c.args.archive.now.stated.jobs (omega arith) c.pairs-pair-items.ensures.rows c.number_at-len.ensures.value c.loop-pair.invariant.1 in
    let b = c.in_err-h.ensures ∙ ap (λ k. read_block g.S.Stamp.kind.order g.R.Record.kind.form c.args.archive.now.bytes.now c.args.archive.now.stated.records c.loop-pair.from k c.loop-pair.low) t.span in
    p.1 ∙ ap Err p.2 ∙ sym (blocks_more g.S.Stamp.kind.order g.R.Record.kind.form c.args.archive.now.bytes.now c.args.archive.now.stated.records c.loop-pair.pair-index c.args.archive.now.stated.jobs c.loop-pair.from c.loop-pair.low (omega arith) ∙ met _ t.paired ∙ refused _ b) ∙ c.loop-pair.invariant.0

pub overflow_add-from : goal.overflow_add-from
overflow_add-from g c = let t = turn c.args.archive.now.bytes.now c.pairs-pair-items.result.now c.loop-pair.from c.number_at-len.result c.loop-pair.pair-index c.args.archive.now.stated.jobs (omega arith) c.pairs-pair-items.ensures.rows c.number_at-len.ensures.value c.loop-pair.invariant.1 in omega arith

pub loop-pair-preserved : goal.loop-pair-preserved
loop-pair-preserved g c =
    let t = turn c.args.archive.now.bytes.now c.pairs-pair-items.result.now c.loop-pair.from c.number_at-len.result c.loop-pair.pair-index c.args.archive.now.stated.jobs (omega arith) c.pairs-pair-items.ensures.rows c.number_at-len.ensures.value c.loop-pair.invariant.1 in
    let b = c.in_ok-h.ensures ∙ ap (λ k. read_block g.S.Stamp.kind.order g.R.Record.kind.form c.args.archive.now.bytes.now c.args.archive.now.stated.records c.loop-pair.from k c.loop-pair.low) t.span in
    (sym (blocks_more g.S.Stamp.kind.order g.R.Record.kind.form c.args.archive.now.bytes.now c.args.archive.now.stated.records c.loop-pair.pair-index c.args.archive.now.stated.jobs c.loop-pair.from c.loop-pair.low (omega arith) ∙ met _ t.paired ∙ met _ b) ∙ c.loop-pair.invariant.0, t.rest)
