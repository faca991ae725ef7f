use Rattle.std.proofs.Common.{◌≡◌, ◌++◌, map, take, drop}
use Rattle.station.specs.Station.{closed_by}
use Rattle.station.specs.Heard.{firsts}
use Rattle.station.proofs.sheet.close.Given as goal

abbrev pub invariant-loop-entry : goal.invariant-loop-entry
invariant-loop-entry g l =
    take l.entry-index l.entry-items ++ map (closed_by (firsts l.rows)) (drop l.entry-index l.entry-items)
    ≡ map (closed_by (firsts l.rows)) l.initial.entry-items
