use Rattle.std.proofs.Common.{take}
use Rattle.writer.specs.Pens.{Lays}
use Rattle.writer.specs.Jobs.{blocks_of}
use Rattle.writer.proofs.journal.lay_blocks.Given as goal

abbrev pub invariant-loop-head : goal.invariant-loop-head
invariant-loop-head g l = Lays l.initial.pen (blocks_of g.S.Stamp.kind.order g.R.Record.kind.form l.lines (take l.head-index l.heads)) l.pen
