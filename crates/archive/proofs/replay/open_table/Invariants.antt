use Rattle.std.proofs.Common.{◌≡◌, ◌+◌, ◌-◌, ◌*◌, ◌++◌, length, take}
use Rattle.archive.specs.Play.{opening_table}
use Rattle.archive.proofs.replay.open_table.Given as goal

abbrev pub invariant-loop-i : goal.invariant-loop-i
invariant-loop-i l =
    (take (20 * l.i) l.table ++ opening_table l.least l.archive.bytes.now (20 + 8 * l.archive.stated.jobs + 12 * l.i) (l.archive.stated.records - l.i) ≡ opening_table l.least l.archive.bytes.now (20 + 8 * l.archive.stated.jobs) l.archive.stated.records) × (length l.table ≡ 20 * l.archive.stated.records)
