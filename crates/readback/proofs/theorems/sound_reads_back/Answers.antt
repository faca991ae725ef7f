use Rattle.readback.proofs.Back.{sound_reads_back}
use Rattle.readback.proofs.theorems.sound_reads_back.Goals as goal

pub returns : goal.returns
returns g c = sound_reads_back g.S.Stamp.kind.order g.R.Record.kind g.met.S.Stamp.lawful.ordered g.met.R.Record.written
