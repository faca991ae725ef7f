use Rattle.std.proofs.Common.{length}
use Rattle.archive.proofs.Entering.{Loaded}
use Rattle.reader.proofs.reader.load.Given as goal

abbrev pub invariant-loop-i : goal.invariant-loop-i
invariant-loop-i g l = Loaded g.R.Record.kind.form l.bytes l.at (length l.initial.space) l.i l.space
