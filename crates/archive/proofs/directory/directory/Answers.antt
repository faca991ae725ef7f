use Rattle.std.proofs.Common.{◌≡◌, ◌+◌, ◌*◌, Ok, Result, ℕ, sym, ap, ◌∙◌, rules}
use Rattle.archive.specs.declared.fault.Fault.{Fault}
use Rattle.archive.specs.Directory.{read_directory}
use Rattle.archive.proofs.Steps.{all_end}
use Rattle.archive.proofs.directory.directory.Goals as goal

pub returns-clause-answer : goal.returns-clause-answer
returns-clause-answer c =
    let r : ◌≡◌ {A = Result ℕ Fault} (Ok c.in_ok-pairs.field-0) (read_directory c.args.bytes.now c.args.stated.records c.args.stated.jobs) = search rules in
    let e = all_end c.args.bytes.now c.args.stated.jobs (20 + 8 * c.args.stated.jobs) c.in_ok-first.first c.in_ok-pairs.field-0 c.in_ok-first.ensures c.in_ok-pairs.ensures in
    ap (λ n. Ok n) (sym e) ∙ r
