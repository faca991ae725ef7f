use Rattle.std.proofs.Common.{◌≡◌, drop}
use Rattle.registrar.specs.Deciding.{rows_after}
use Rattle.registrar.proofs.rows.enter_all.Given as goal

abbrev pub invariant-loop-entry : goal.invariant-loop-entry
invariant-loop-entry g l = rows_after g.S.Stamp.kind.order l.stamp l.entries l.initial.rows ≡ rows_after g.S.Stamp.kind.order l.stamp (drop l.entry-index l.entries) l.rows
