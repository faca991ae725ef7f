use Rattle.std.proofs.Common.{◌≡◌, ◌*◌, length, take}
use Rattle.archive.specs.Values.{values_bytes}
use Rattle.archive_view.proofs.forms.write.Given as goal

abbrev pub invariant-loop-i : goal.invariant-loop-i
invariant-loop-i g l = (length l.space ≡ length l.initial.space) × (take (12 * l.i) l.space ≡ values_bytes g.R.Record.kind.form (take l.i l.values))
