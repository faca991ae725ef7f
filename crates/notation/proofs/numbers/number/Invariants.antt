use Rattle.std.proofs.Common.{◌≡◌, drop}
use Rattle.notation.specs.Numbers.{number_of}
use Rattle.notation.specs.NumberLaws.{read_on}
use Rattle.notation.proofs.numbers.number.Given as goal

-- the answer is what the bytes that are left write after the number so far
abbrev pub invariant-loop-digit : goal.invariant-loop-digit
invariant-loop-digit l = read_on l.most l.n (drop l.digit-index l.word) ≡ number_of l.most l.word
