-- What is handed over are the desk's own tables, so the law holds of these.
use Rattle.std.proofs.Common.{subst}
use Rattle.law.specs.HandOver.{AccountedFor}
use Rattle.schedule_desk.proofs.desk.Desk.close.Goals as goal

pub returns-clause-law : goal.returns-clause-law
returns-clause-law g c = subst (AccountedFor g.S.Stamp.kind) c.books.ensures c.hand_over.ensures.law
