-- Each turn goes on behind a row.
use Rattle.std.proofs.Common.{length}
use Rattle.release.proofs.alike.+alike.Given as goal

abbrev pub decreases-alike : goal.decreases-alike
decreases-alike g l = length l.rows.now
