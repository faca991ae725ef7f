use Rattle.std.proofs.Common.{◌+◌, ◌*◌, Err, sym, ap, ◌∙◌, arith}
use Rattle.std.proofs.lemmas.Result.{err_from_is_err_and}
use Rattle.archive.proofs.Counting.{more, pair_next, met, refused}
use Rattle.archive.proofs.directory.pairs.Goals as goal

pub returns-in_err-from : goal.returns-in_err-from
returns-in_err-from c =
    let p = err_from_is_err_and c.from_residual.result c.from_residual.ensures.1 in
    let m = more c.loop-at.invariant (omega arith) in
    p.1 ∙ ap Err p.2 ∙ sym (pair_next c.args.bytes.now c.loop-at.at c.loop-at.from (20 + 8 * c.args.jobs) m.after m.within ∙ refused _ c.in_err-from.ensures) ∙ m.held

pub loop-at-preserved : goal.loop-at-preserved
loop-at-preserved c =
    let m = more c.loop-at.invariant (omega arith) in
    record { steps = m.after; ends = m.within; holds = sym (pair_next c.args.bytes.now c.loop-at.at c.loop-at.from (20 + 8 * c.args.jobs) m.after m.within ∙ met _ c.in_ok-from.ensures) ∙ m.held }
