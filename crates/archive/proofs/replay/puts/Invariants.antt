use Rattle.std.proofs.Common.{◌≡◌, take}
use Rattle.std.specs.Prelude.{fold}
use Rattle.archive.specs.Play.{entered}
use Rattle.archive.proofs.replay.puts.Given as goal

abbrev pub invariant-loop-put : goal.invariant-loop-put
invariant-loop-put l = l.table ≡ fold (entered l.stamp) l.initial.table (take l.put-index l.put-items)
