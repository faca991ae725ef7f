use Rattle.readback.proofs.RunsBack.{run_plays}
use Rattle.readback.proofs.runs.run_plays_back.Goals as goal

pub returns : goal.returns
returns g c registry = run_plays g.S.Stamp.kind g.met.S.Stamp.lawful g.R.Record.kind g.met.R.Record.written registry
