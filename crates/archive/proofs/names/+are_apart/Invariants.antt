use Rattle.std.proofs.Common.{length}
use Rattle.archive.proofs.names.+are_apart.Given as goal

abbrev pub decreases-are_apart : goal.decreases-are_apart
decreases-are_apart l = length l.names.now
