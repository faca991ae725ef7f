use Rattle.std.proofs.Common.{◌++◌, drop, map, take, ap, ◌∙◌, arith}
use Rattle.station.specs.Station.{closed_by}
use Rattle.station.specs.Heard.{firsts}
use Rattle.station.proofs.Back.{anew, laid-map, take_within}
use Rattle.station.proofs.sheet.close.Goals as goal

pub returns : goal.returns
returns g c =
    let f = closed_by (firsts c.args.rows.now) in
    let sheet = c.args.sheet.now in
    let end = c.min-end.result in
    ap (λ items. items ++ drop end sheet) (anew f (map f (take end sheet)) c.loop-entry.entry-items c.loop-entry.entry-index (omega arith) c.loop-entry.invariant)
    ∙ laid-map f sheet c.args.count end c.min-end.ensures (take_within sheet c.args.count end c.min-end.ensures)
