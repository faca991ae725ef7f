use Rattle.law.specs.HandOver.{registry_in_books}
use Rattle.writer.proofs.Front.{stated_by_front}
use Rattle.writer.proofs.write.write.Goals as goal

pub returns-clause-read_back : goal.returns-clause-read_back
returns-clause-read_back g c =
    stated_by_front g.S.Stamp.kind g.met.S.Stamp.lawful g.R.Record.kind g.met.R.Record.written (registry_in_books c.args.books) c.lay_down.result c.args.space.now c.lay_down.new.space c.lay_down.ensures
