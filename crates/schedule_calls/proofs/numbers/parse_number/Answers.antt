-- The digits of a number are text, and those of an index are its decimal form.
use Rattle.std.proofs.Common.{sym, subst, ◌∙◌}
use Rattle.std.specs.Str.{IsUtf8}
use Rattle.schedule_calls.proofs.Digits.{numeral_text, index_digits}
use Rattle.schedule_calls.proofs.numbers.parse_number.Goals as goal

pub returns-in-Some : goal.returns-in-Some
returns-in-Some c =
    sym (index_digits c.args.word.now c.in-Some.index (sym c.number.ensures.value ∙ c.in-Some.is))

pub returns-in_default-from_utf8 : goal.returns-in_default-from_utf8
returns-in_default-from_utf8 c =
    absurd (c.in_default-from_utf8.ensures.cases.0 (subst IsUtf8 (sym c.without_zeros.ensures) (numeral_text c.args.word.now (sym c.is_number.ensures ∙ c.if-not-is_number.false))))
