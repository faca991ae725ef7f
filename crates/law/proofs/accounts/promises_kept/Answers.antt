use Rattle.law.proofs.LeanOn.{promises_kept}
use Rattle.law.proofs.accounts.promises_kept.Goals as goal

pub returns : goal.returns
returns g c = promises_kept g.S.Stamp.kind g.met.S.Stamp.lawful g.row.R.Denot
