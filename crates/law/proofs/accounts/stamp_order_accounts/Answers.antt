use Rattle.law.proofs.EveryRun.{accounts}
use Rattle.law.proofs.accounts.stamp_order_accounts.Goals as goal

pub returns : goal.returns
returns g c = accounts g.S.Stamp.kind g.met.S.Stamp.lawful g.row.R.Denot
