-- Each turn takes one name out.
use Rattle.std.proofs.Common.{length}
use Rattle.schedule_desk.proofs.holdings.Holdings.close.Given as goal

abbrev pub decreases-loop-holding : goal.decreases-loop-holding
decreases-loop-holding g l = length l.named.entries
