use Rattle.std.proofs.Common.{◌+◌, ◌-◌, ◌*◌, Err, sym, ap, ◌∙◌, arith}
use Rattle.std.proofs.lemmas.Result.{err_from_is_err_and}
use Rattle.archive.specs.Blocks.{read_front}
use Rattle.archive.proofs.Counting.{met, refused}
use Rattle.archive.proofs.Steps.{turn}
use Rattle.archive.proofs.Plays.{play_more, play_at}
use Rattle.archive.proofs.replay.play_jobs.Goals as goal

pub front-requires : goal.front-requires
front-requires g c = let t = turn c.args.archive.now.bytes.now c.pairs-pair-items.result.now c.loop-pair.from c.number_at-len.result c.loop-pair.pair-index c.args.archive.now.stated.jobs (omega arith) c.pairs-pair-items.ensures.rows c.number_at-len.ensures.value c.loop-pair.invariant.1 in t.within

pub returns-in_err-h : goal.returns-in_err-h
returns-in_err-h g c =
    let p = err_from_is_err_and c.from_residual.result c.from_residual.ensures.1 in
    let t = turn c.args.archive.now.bytes.now c.pairs-pair-items.result.now c.loop-pair.from c.number_at-len.result c.loop-pair.pair-index c.args.archive.now.stated.jobs (omega arith) c.pairs-pair-items.ensures.rows c.number_at-len.ensures.value c.loop-pair.invariant.1 in
    let b = c.in_err-h.ensures.answer ∙ ap (λ k. read_front g.S.Stamp.kind.order c.args.archive.now.bytes.now c.loop-pair.from k c.loop-pair.low) t.span in
    p.1 ∙ ap Err p.2 ∙ sym (play_more g.S.Stamp.kind.order c.args.archive.now.bytes.now c.loop-pair.pair-index c.args.archive.now.stated.jobs c.loop-pair.from c.loop-pair.low c.loop-pair.table (omega arith) ∙ met _ t.paired ∙ refused _ b) ∙ c.loop-pair.invariant.0

pub returns-in_err-play_job : goal.returns-in_err-play_job
returns-in_err-play_job g c =
    let p = err_from_is_err_and c.from_residual-in_err-play_job.result c.from_residual-in_err-play_job.ensures.1 in
    let t = turn c.args.archive.now.bytes.now c.pairs-pair-items.result.now c.loop-pair.from c.number_at-len.result c.loop-pair.pair-index c.args.archive.now.stated.jobs (omega arith) c.pairs-pair-items.ensures.rows c.number_at-len.ensures.value c.loop-pair.invariant.1 in
    let b = c.in_ok-h.ensures.answer ∙ ap (λ k. read_front g.S.Stamp.kind.order c.args.archive.now.bytes.now c.loop-pair.from k c.loop-pair.low) t.span in
    p.1 ∙ ap Err p.2 ∙ sym (play_more g.S.Stamp.kind.order c.args.archive.now.bytes.now c.loop-pair.pair-index c.args.archive.now.stated.jobs c.loop-pair.from c.loop-pair.low c.loop-pair.table (omega arith) ∙ met _ t.paired ∙ met _ b ∙ refused _ c.in_err-play_job.ensures.answer) ∙ c.loop-pair.invariant.0

pub overflow_add-from : goal.overflow_add-from
overflow_add-from g c = let t = turn c.args.archive.now.bytes.now c.pairs-pair-items.result.now c.loop-pair.from c.number_at-len.result c.loop-pair.pair-index c.args.archive.now.stated.jobs (omega arith) c.pairs-pair-items.ensures.rows c.number_at-len.ensures.value c.loop-pair.invariant.1 in omega arith

pub loop-pair-preserved : goal.loop-pair-preserved
loop-pair-preserved g c =
    let t = turn c.args.archive.now.bytes.now c.pairs-pair-items.result.now c.loop-pair.from c.number_at-len.result c.loop-pair.pair-index c.args.archive.now.stated.jobs (omega arith) c.pairs-pair-items.ensures.rows c.number_at-len.ensures.value c.loop-pair.invariant.1 in
    let b = c.in_ok-h.ensures.answer ∙ ap (λ k. read_front g.S.Stamp.kind.order c.args.archive.now.bytes.now c.loop-pair.from k c.loop-pair.low) t.span in (
      play_at g.S.Stamp.kind.order c.args.archive.now.bytes.now (20 + 8 * (c.loop-pair.pair-index + 1)) (c.loop-pair.from + c.number_at-len.result) (c.args.archive.now.stated.jobs - (c.loop-pair.pair-index + 1)) c.in_ok-h.h.stamp
          c.in_ok-play_job.ensures.leaves
          ∙ sym (play_more g.S.Stamp.kind.order c.args.archive.now.bytes.now c.loop-pair.pair-index c.args.archive.now.stated.jobs c.loop-pair.from c.loop-pair.low c.loop-pair.table (omega arith) ∙ met _ t.paired ∙ met _ b ∙ met _ c.in_ok-play_job.ensures.answer) ∙ c.loop-pair.invariant.0,
      t.rest,
    )
