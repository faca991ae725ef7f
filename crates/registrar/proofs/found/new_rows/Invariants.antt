use Rattle.std.proofs.Common.{◌≡◌, ◌++◌, take, drop}
use Rattle.registrar.specs.Registry.{founded_rows}
use Rattle.registrar.proofs.found.new_rows.Given as goal

abbrev pub invariant-loop-i : goal.invariant-loop-i
invariant-loop-i g l =
    take l.i l.rows ++ founded_rows g.S.Stamp.kind.order (drop l.i l.values) (drop l.i l.rows)
    ≡ founded_rows g.S.Stamp.kind.order l.values l.initial.rows
