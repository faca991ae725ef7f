use Rattle.std.proofs.Common.{◌≡◌, ◌*◌, ◌≤◌, length, take}
use Rattle.writer.specs.Jobs.{blocks_of}
use Rattle.writer.proofs.journal.blocks_len.Given as goal

abbrev pub invariant-loop-head : goal.invariant-loop-head
invariant-loop-head g l = (l.total ≡ length (blocks_of g.S.Stamp.kind.order g.R.Record.kind.form l.lines (take l.head-index l.heads))) × (l.total ≤ 592 * l.head-index)
