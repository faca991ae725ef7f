use Rattle.readback.proofs.Accepted.{accepted_is_sound, accepted_exactly}
use Rattle.readback.proofs.theorems.accepted_exactly.Goals as goal

pub returns : goal.returns
returns g c =
    record {
      exactly = accepted_exactly g.S.Stamp.kind.order g.R.Record.kind g.met.S.Stamp.lawful.ordered g.met.R.Record.written;
      stated = accepted_is_sound g.S.Stamp.kind.order g.R.Record.kind g.met.S.Stamp.lawful.ordered g.met.R.Record.written;
    }
