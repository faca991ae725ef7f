-- Each turn takes a digit off.
use Rattle.std.proofs.Common.{length}
use Rattle.schedule_calls.proofs.numbers.+without_zeros.Given as goal

abbrev pub decreases-without_zeros : goal.decreases-without_zeros
decreases-without_zeros l = length l.word.now
