use Rattle.std.proofs.Common.{length, ap, ◌∙◌}
use Rattle.std.proofs.lemmas.List.{length-replicate}
use Rattle.release.proofs.field.Field.new.Goals as goal

pub loop-init : goal.loop-init
loop-init g c = ap length c.in_ok-opening.ensures ∙ length-replicate c.args.options.now.records c.drawn-value.result
