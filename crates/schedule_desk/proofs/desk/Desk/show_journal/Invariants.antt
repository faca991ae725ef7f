-- What is printed leaves the tally alone.
use Rattle.std.proofs.Common.{◌≡◌}
use Rattle.schedule_desk.proofs.desk.Desk.show_journal.Given as goal

abbrev pub invariant-loop-head : goal.invariant-loop-head
invariant-loop-head g l = l.log.tally ≡ l.fn.log.tally
