use Rattle.std.proofs.Common.{◌≡◌, take}
use Rattle.std.specs.Prelude.{fold}
use Rattle.archive.specs.Played.{value_entered}
use Rattle.archive.proofs.play.enter_puts.Given as goal

abbrev pub invariant-loop-put : goal.invariant-loop-put
invariant-loop-put g l = l.space ≡ fold (value_entered g.R.Record.kind.form) l.initial.space (take l.put-index l.put-items)
