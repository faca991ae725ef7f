use Rattle.std.proofs.Common.{◌≡◌, ◌+◌, ◌-◌, ◌*◌, true}
use Rattle.std.specs.Prelude.{is_ok}
use Rattle.archive.specs.Directory.{read_pairs}
use Rattle.archive.specs.Blocks.{read_blocks}
use Rattle.archive.proofs.blocks.blocks.Given as goal

abbrev pub invariant-loop-pair : goal.invariant-loop-pair
invariant-loop-pair g l =
    let o = g.S.Stamp.kind.order in
    let f = g.R.Record.kind.form in
    let bs = l.archive.bytes.now in
    let n = l.archive.stated.records in
    let jobs = l.archive.stated.jobs in
    (read_blocks o f bs n (20 + 8 * l.pair-index) l.from l.low (jobs - l.pair-index) ≡ read_blocks o f bs n 20 (20 + 8 * jobs + 12 * n) o.least jobs)
    × (is_ok (read_pairs bs (20 + 8 * l.pair-index) l.from (jobs - l.pair-index)) ≡ true)
