use Rattle.std.proofs.Common.{◌*◌, length, refl, ap, ◌∙◌, arith}
use Rattle.archive.proofs.Laid.{laid_next, laid_long}
use Rattle.archive.proofs.replay.lay_row.Goals as goal

pub lay-requires-2 : goal.lay-requires-2
lay-requires-2 c = let l = ap length c.lay.ensures ∙ laid_long (20 * c.args.x) c.args.stamp.now c.args.table.now (omega arith) in omega (arith, l)

pub returns : goal.returns
returns c = laid_next (20 * c.args.x) _ c.args.stamp.now c.args.value.now c.args.table.now c.lay.new.table c.lay-2.new.table refl (omega arith) c.lay.ensures c.lay-2.ensures
