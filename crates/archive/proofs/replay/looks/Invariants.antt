use Rattle.std.proofs.Common.{◌≡◌}
use Rattle.archive.specs.Play.{read_looks}
use Rattle.archive.proofs.Counting.{Left}
use Rattle.archive.proofs.replay.looks.Given as goal

abbrev pub invariant-loop-here : goal.invariant-loop-here
invariant-loop-here l = Left 22 l.here l.here-end (λ left. read_looks l.bytes l.here l.table left ≡ read_looks l.bytes l.first l.table l.count)
