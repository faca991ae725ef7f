use Rattle.std.proofs.Common.{Err, sym, ap, ◌∙◌, arith}
use Rattle.std.proofs.lemmas.Result.{err_from_is_err_and}
use Rattle.archive.proofs.Counting.{more, last_step, met, refused}
use Rattle.archive.proofs.values.values.Goals as goal

pub value-requires : goal.value-requires
value-requires g c = let m = more c.loop-here.invariant (omega arith) in omega (arith, m.within)

pub returns-in_err-value : goal.returns-in_err-value
returns-in_err-value g c =
    let p = err_from_is_err_and c.from_residual.result c.from_residual.ensures.1 in
    let m = more c.loop-here.invariant (omega arith) in
    p.1 ∙ ap Err p.2 ∙ sym (refused _ c.in_err-value.ensures) ∙ m.held

pub loop-here-preserved : goal.loop-here-preserved
loop-here-preserved g c =
    let m = more c.loop-here.invariant (omega arith) in
    record { steps = m.after; ends = m.within; holds = sym (met _ c.in_ok-value.ensures) ∙ m.held }

pub returns-in_ok-value : goal.returns-in_ok-value
returns-in_ok-value g c = sym (met _ c.in_ok-value.ensures) ∙ last_step (more c.loop-here.invariant (omega arith)) (omega arith) (omega arith)
