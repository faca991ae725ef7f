use Rattle.registrar.proofs.Heads.{shifted}
use Rattle.registrar.proofs.journal.insert_at.Goals as goal

pub returns : goal.returns
returns g c = shifted c.args.table.now c.args.n c.args.place c.args.content c.requires.within c.requires.room c.rotate_right.new.self c.rotate_right.ensures.after
