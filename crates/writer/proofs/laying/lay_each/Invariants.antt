use Rattle.std.specs.Prelude.{take}
use Rattle.std.specs.List.{flat_map}
use Rattle.writer.specs.Pens.{Lays}
use Rattle.writer.proofs.laying.lay_each.Given as goal

abbrev pub invariant-loop-item : goal.invariant-loop-item
invariant-loop-item g l = Lays l.initial.pen (flat_map g.P.Part.written (take l.item-index l.items)) l.pen
