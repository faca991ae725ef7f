use Rattle.std.proofs.Common.{◌≡◌}
use Rattle.archive.specs.Directory.{read_pairs}
use Rattle.archive.proofs.Counting.{Left}
use Rattle.archive.proofs.directory.pairs.Given as goal

abbrev pub invariant-loop-at : goal.invariant-loop-at
invariant-loop-at l = Left 8 l.at l.end (λ left. read_pairs l.bytes l.at l.from left ≡ read_pairs l.bytes 20 l.first l.jobs)
