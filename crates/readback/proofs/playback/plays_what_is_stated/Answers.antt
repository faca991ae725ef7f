use Rattle.readback.proofs.PlaysStated.{plays_stated}
use Rattle.readback.proofs.playback.plays_what_is_stated.Goals as goal

pub returns : goal.returns
returns g c = plays_stated g.S.Stamp.kind.order g.R.Record.kind
