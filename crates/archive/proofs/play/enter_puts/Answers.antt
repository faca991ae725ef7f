use Rattle.std.proofs.Common.{ap, ◌∙◌, arith}
use Rattle.std.proofs.lemmas.List.{take_all}
use Rattle.std.specs.Prelude.{fold}
use Rattle.archive.specs.Played.{value_entered}
use Rattle.archive.proofs.Entering.{values_entered}
use Rattle.archive.proofs.play.enter_puts.Goals as goal

pub returns : goal.returns
returns g c =
    c.loop-put.invariant
    ∙ ap (fold (value_entered g.R.Record.kind.form) c.args.space.now) (take_all c.loop-put.put-index c.rows-put-items.result.now (omega arith) ∙ c.rows-put-items.ensures.rows)
    ∙ values_entered g.R.Record.kind.form c.args.bytes.now c.args.count c.args.first c.args.space.now
