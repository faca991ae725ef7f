use Rattle.std.proofs.Common.{◌≡◌}
use Rattle.archive.specs.Values.{read_values}
use Rattle.archive.proofs.Counting.{Left}
use Rattle.archive.proofs.values.values.Given as goal

abbrev pub invariant-loop-here : goal.invariant-loop-here
invariant-loop-here g l = Left l.step l.here l.here-end (λ left. read_values g.R.Record.kind.form l.bytes l.here l.step left ≡ read_values g.R.Record.kind.form l.bytes l.at l.step l.count)
