use Rattle.std.proofs.Common.{◌≡◌, ◌++◌, take, drop}
use Rattle.registrar.specs.Registry.{shown_rows}
use Rattle.registrar.proofs.publish.show_all.Given as goal

abbrev pub invariant-loop-i : goal.invariant-loop-i
invariant-loop-i g l = take l.i l.image ++ shown_rows (drop l.i l.rows) (drop l.i l.firsts) ≡ shown_rows l.rows l.firsts
