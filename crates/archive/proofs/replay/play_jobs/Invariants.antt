use Rattle.std.proofs.Common.{◌≡◌, ◌+◌, ◌-◌, ◌*◌, true}
use Rattle.std.specs.Prelude.{is_ok}
use Rattle.archive.specs.Directory.{read_pairs}
use Rattle.archive.specs.Play.{play_jobs}
use Rattle.archive.proofs.replay.play_jobs.Given as goal

abbrev pub invariant-loop-pair : goal.invariant-loop-pair
invariant-loop-pair g l =
    let o = g.S.Stamp.kind.order in
    let bs = l.archive.bytes.now in
    let jobs = l.archive.stated.jobs in
    (play_jobs o bs (20 + 8 * l.pair-index) l.from l.low l.table (jobs - l.pair-index) ≡ play_jobs o bs 20 (20 + 8 * jobs + 12 * l.archive.stated.records) o.least l.initial.table jobs)
    × (is_ok (read_pairs bs (20 + 8 * l.pair-index) l.from (jobs - l.pair-index)) ≡ true)
