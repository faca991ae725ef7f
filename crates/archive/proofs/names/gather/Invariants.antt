use Rattle.std.proofs.Common.{◌≡◌, length, map, take}
use Rattle.kinds.specs.Bytes.{number2}
use Rattle.archive.proofs.names.gather.Given as goal

abbrev pub invariant-loop-i : goal.invariant-loop-i
invariant-loop-i g l = (take l.i l.names ≡ map number2 (take l.i l.rows)) × (length l.names ≡ 16)
