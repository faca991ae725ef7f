use Rattle.std.proofs.Common.{◌≡◌}
use Rattle.reader.specs.Rebuilt.{with_puts}
use Rattle.reader.proofs.reader.enter.Given as goal

abbrev pub invariant-loop-put : goal.invariant-loop-put
invariant-loop-put g l = with_puts l.space l.put-iterator ≡ with_puts l.initial.space l.fn.puts
