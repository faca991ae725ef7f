use Rattle.std.proofs.lemmas.Result.{err_from_is_err_and}
use Rattle.std.proofs.Common.{◌∙◌}
use Rattle.station.specs.Heard.{station, heard}
use Rattle.station.proofs.Calls.{tune_stops, tunes}
use Rattle.station.proofs.job.Job.tune.Goals as goal

pub returns-in_err-admit_next : goal.returns-in_err-admit_next
returns-in_err-admit_next g c =
    let p = err_from_is_err_and c.from_residual.result c.from_residual.ensures.1 in
    rw (p.1, p.2) (tune_stops g.S.Stamp.kind (station c.args.self.now c.args.sheet.now) (heard c.args.image) _ c.in_err-admit_next.ensures)

pub returns : goal.returns
returns g c =
    c.tune_at.ensures
    ∙ tunes g.S.Stamp.kind (station c.args.self.now c.args.sheet.now) (heard c.args.image) c.in_ok-admit_next.ensures
