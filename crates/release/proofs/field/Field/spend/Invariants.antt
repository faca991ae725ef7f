-- Each turn takes one ticket out.
use Rattle.std.proofs.Common.{vec_len}
use Rattle.release.proofs.field.Field.spend.Given as goal

abbrev pub decreases-loop-ticket : goal.decreases-loop-ticket
decreases-loop-ticket g l = vec_len l.tickets
