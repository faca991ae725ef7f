use Rattle.std.proofs.Common.{sym, ◌∙◌, arith, rules, true-eqb}
use Rattle.notation.proofs.HexLaws.{read_short, read_high, read_low, read_byte, read_all}
use Rattle.notation.proofs.hex.unhex.Goals as goal

pub returns-in_default : goal.returns-in_default
returns-in_default g c = sym (read_short g.row.N c.loop-byte.byte-index c.loop-byte.rest.now _ c.loop-byte-test.true c.in_default.len_below) ∙ c.loop-byte.invariant.0

pub returns-in_err-digit_half : goal.returns-in_err-digit_half
returns-in_err-digit_half g c =
    c.from_residual.ensures
    ∙ sym (read_high g.row.N c.loop-byte.byte-index c.loop-byte.rest.now _ c.loop-byte-test.true c.in-len2-up.len_at_least (sym c.in_err-digit_half.ensures.value))
    ∙ c.loop-byte.invariant.0

pub returns-in_err-byte : goal.returns-in_err-byte
returns-in_err-byte g c =
    c.from_residual-in_err-byte.ensures
    ∙ sym (read_low g.row.N c.loop-byte.byte-index c.in_ok-digit_half.field-0 c.loop-byte.rest.now _ c.loop-byte-test.true c.in-len2-up.len_at_least (sym c.in_ok-digit_half.ensures.value) (sym c.in_err-byte.ensures.value))
    ∙ c.loop-byte.invariant.0

pub loop-byte-preserved : goal.loop-byte-preserved
loop-byte-preserved g c = (
  sym (read_byte g.row.N c.loop-byte.byte-index c.in_ok-digit_half.field-0 c.in_ok-byte.field-0 c.loop-byte.rest.now c.loop-byte.byte-items c.loop-byte-test.true c.in-len2-up.len_at_least c.loop-byte.invariant.1 (sym c.in_ok-digit_half.ensures.value) (sym c.in_ok-byte.ensures.value))
      ∙ c.loop-byte.invariant.0,
  search rules,
)

pub returns-then-is_empty : goal.returns-then-is_empty
returns-then-is_empty g c =
    sym (read_all g.row.N c.loop-byte.byte-index c.loop-byte.rest.now c.loop-byte.byte-items (omega arith) (true-eqb _ 0 c.if-is_empty.ensures) c.loop-byte.invariant.1) ∙ c.loop-byte.invariant.0
