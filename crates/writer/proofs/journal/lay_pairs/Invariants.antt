use Rattle.std.proofs.Common.{◌≡◌, ◌+◌, ◌*◌, ◌≤◌, length, take}
use Rattle.archive.specs.Directory.{pairs_bytes}
use Rattle.writer.specs.Pens.{Lays}
use Rattle.writer.specs.Jobs.{blocks_of, lengths_of}
use Rattle.writer.proofs.journal.lay_pairs.Given as goal

abbrev pub invariant-loop-head : goal.invariant-loop-head
invariant-loop-head g l =
    let o = g.S.Stamp.kind.order in
    let f = g.R.Record.kind.form in
    Lays l.initial.pen (pairs_bytes l.first (lengths_of o f l.lines (take l.head-index l.heads))) l.pen
    × ((l.from ≡ l.first + length (blocks_of o f l.lines (take l.head-index l.heads))) × (l.from ≤ l.first + 592 * l.head-index))
