use Rattle.schedule_text.proofs.AnswerLaws.{forms_read_back}
use Rattle.schedule_text.proofs.answer.forms_read_back.Goals as goal

pub returns : goal.returns
returns c = forms_read_back
