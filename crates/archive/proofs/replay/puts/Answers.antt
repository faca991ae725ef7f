use Rattle.std.proofs.Common.{ap, ◌∙◌, arith}
use Rattle.std.proofs.lemmas.List.{take_all}
use Rattle.std.specs.Prelude.{fold}
use Rattle.archive.specs.Play.{entered}
use Rattle.archive.proofs.Plays.{entered_rows}
use Rattle.archive.proofs.replay.puts.Goals as goal

pub returns : goal.returns
returns c =
    c.loop-put.invariant ∙ ap (fold (entered c.form-stamp.result) c.args.table.now) (take_all c.loop-put.put-index c.rows-put-items.result.now (omega arith) ∙ c.rows-put-items.ensures.rows)
    ∙ entered_rows c.args.bytes.now c.args.block c.form-stamp.result c.form-stamp.ensures c.args.count c.args.first c.args.table.now
