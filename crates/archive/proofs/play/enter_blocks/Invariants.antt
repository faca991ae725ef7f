use Rattle.std.proofs.Common.{◌≡◌, ◌+◌, ◌-◌, ◌*◌, ◌≤◌}
use Rattle.archive.specs.Played.{blocks_played}
use Rattle.archive.proofs.play.enter_blocks.Given as goal

abbrev pub invariant-loop-pair : goal.invariant-loop-pair
invariant-loop-pair g l =
    (blocks_played g.R.Record.kind.form l.archive.bytes.now (20 + 8 * l.pair-index) l.from l.space (l.jobs - l.pair-index)
    ≡ blocks_played g.R.Record.kind.form l.archive.bytes.now 20 (20 + 8 * l.archive.stated.jobs + 12 * l.archive.stated.records) l.initial.space l.jobs)
    × (l.from ≤ (20 + 8 * l.archive.stated.jobs + 12 * l.archive.stated.records) + 4294967296 * l.pair-index)
