use Rattle.std.proofs.lemmas.Result.{err_from_is_err_and}
use Rattle.std.proofs.Common.{◌∙◌}
use Rattle.station.specs.Heard.{station, heard}
use Rattle.station.proofs.Calls.{stops, looks}
use Rattle.station.proofs.job.Job.look.Goals as goal

pub returns-in_err-row : goal.returns-in_err-row
returns-in_err-row g c =
    let p = err_from_is_err_and c.from_residual.result c.from_residual.ensures.1 in
    rw (p.1, p.2) (stops (station c.args.self.now c.args.sheet.now) (heard c.args.image) c.args.number _ _ c.in_err-row.ensures)

pub returns : goal.returns
returns g c =
    c.look_at.ensures
    ∙ looks g.S.Stamp.kind (station c.args.self.now c.args.sheet.now) (heard c.args.image) c.args.number c.in_ok-row.row c.in_ok-row.ensures
