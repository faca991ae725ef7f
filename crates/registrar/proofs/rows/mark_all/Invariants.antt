use Rattle.std.proofs.Common.{◌≡◌, drop}
use Rattle.registrar.specs.Deciding.{firsts_after}
use Rattle.registrar.proofs.rows.mark_all.Given as goal

abbrev pub invariant-loop-entry : goal.invariant-loop-entry
invariant-loop-entry g l = firsts_after l.stamp l.entries l.initial.firsts ≡ firsts_after l.stamp (drop l.entry-index l.entries) l.firsts
