use Rattle.std.proofs.Common.{◌≡◌, length}
use Rattle.release.proofs.field.Field.new.Given as goal

abbrev pub invariant-loop : goal.invariant-loop
invariant-loop g l = length l.opening.items ≡ l.options.records
