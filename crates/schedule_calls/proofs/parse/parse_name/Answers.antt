-- A name is text, so that no other name is lost.
use Rattle.std.proofs.Common.{◌≡◌, true}
use Rattle.schedule_calls.specs.Commands.{is_name}
use Rattle.schedule_calls.proofs.Letters.{name_text}
use Rattle.schedule_calls.proofs.parse.parse_name.Goals as goal

pub returns-in_default : goal.returns-in_default
returns-in_default c =
    let e : is_name c.args.word.now ≡ true = cc in
    absurd (c.in_default.ensures.cases.0 (name_text c.args.word.now e))
