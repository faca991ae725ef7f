use Rattle.std.proofs.Common.{Err, sym, ap, ◌∙◌, arith}
use Rattle.std.proofs.lemmas.Result.{err_from_is_err_and}
use Rattle.archive.proofs.Counting.{more, last_step, met, refused}
use Rattle.archive.proofs.replay.looks.Goals as goal

pub look-requires : goal.look-requires
look-requires c = let m = more c.loop-here.invariant (omega arith) in omega (arith, m.within)

pub returns-in_err-look : goal.returns-in_err-look
returns-in_err-look c =
    let p = err_from_is_err_and c.from_residual.result c.from_residual.ensures.1 in
    let m = more c.loop-here.invariant (omega arith) in
    p.1 ∙ ap Err p.2 ∙ sym (refused _ c.in_err-look.ensures) ∙ m.held

pub returns-in_ok-look : goal.returns-in_ok-look
returns-in_ok-look c = sym (met _ c.in_ok-look.ensures) ∙ last_step (more c.loop-here.invariant (omega arith)) (omega arith) (omega arith)

pub loop-here-preserved : goal.loop-here-preserved
loop-here-preserved c =
    let m = more c.loop-here.invariant (omega arith) in
    record { steps = m.after; ends = m.within; holds = sym (met _ c.in_ok-look.ensures) ∙ m.held }
