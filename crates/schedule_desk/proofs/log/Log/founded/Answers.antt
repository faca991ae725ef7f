-- The line's words are the text that is passed on.
use Rattle.std.proofs.Common.{refl, codes}
use Rattle.schedule_desk.proofs.log.Log.founded.Goals as goal

pub returns-clause-text : goal.returns-clause-text
returns-clause-text g c = c.said.ensures.text (codes "found") refl
