use Rattle.std.proofs.Common.{◌≡◌, drop}
use Rattle.registrar.specs.Deciding.{upper_bound}
use Rattle.registrar.proofs.verdicts.upper_after.Given as goal

abbrev pub invariant-loop-entry : goal.invariant-loop-entry
invariant-loop-entry g l = upper_bound g.S.Stamp.kind.order l.rows l.entries l.initial.bound ≡ upper_bound g.S.Stamp.kind.order l.rows (drop l.entry-index l.entries) l.bound
