use Rattle.std.proofs.Common.{sym, ◌∙◌, arith}
use Rattle.notation.proofs.DigitLaws.{read_past}
use Rattle.notation.proofs.numbers.number.Goals as goal

pub returns-in_err-checked_mul-clause-value : goal.returns-in_err-checked_mul-clause-value
returns-in_err-checked_mul-clause-value c =
    c.from_residual.ensures
    ∙ sym (read_past c.args.most c.loop-digit.n c.loop-digit.digit-index c.args.word.now c.loop-digit-test.true (omega arith))
    ∙ c.loop-digit.invariant

pub returns-in_err-n-clause-value : goal.returns-in_err-n-clause-value
returns-in_err-n-clause-value c =
    c.from_residual-in_err-n.ensures
    ∙ sym (read_past c.args.most c.loop-digit.n c.loop-digit.digit-index c.args.word.now c.loop-digit-test.true (omega arith))
    ∙ c.loop-digit.invariant
