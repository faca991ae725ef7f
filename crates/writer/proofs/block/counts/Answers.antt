use Rattle.std.proofs.Common.{◌≡◌, ◌∙◌, rules, arith}
use Rattle.std.specs.Prelude.{count_by}
use Rattle.std.proofs.iter.runs.Made.{chains}
use Rattle.writer.specs.Blocks.{look_count, put_count}
use Rattle.writer.proofs.Entries.{looks_counted, puts_counted, looks_few, puts_few}
use Rattle.writer.proofs.block.counts.Goals as goal

pub returns : goal.returns
returns g c =
    let es = c.args.entries.now in
    let seen : c.count-looks.result ≡ count_by (λ e. e.seen) es = search (rules, chains) in
    let put : c.count-puts.result ≡ count_by (λ e. e.put) es = search (rules, chains) in
    let looks : c.count-looks.result ≡ look_count es = seen ∙ looks_counted es in
    let puts : c.count-puts.result ≡ put_count es = put ∙ puts_counted es in
    record { looks = looks; puts = puts; few = (omega (arith, looks_few es), omega (arith, puts_few es)) }
