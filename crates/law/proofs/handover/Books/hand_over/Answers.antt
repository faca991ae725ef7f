use Rattle.law.proofs.HandedOver.{accounted_for}
use Rattle.law.proofs.handover.Books.hand_over.Goals as goal

pub returns-clause-law : goal.returns-clause-law
returns-clause-law g c = accounted_for g.S.Stamp.kind g.met.S.Stamp.lawful _
