use Rattle.std.specs.Prelude.{slice_index}
use Rattle.kinds.specs.Whole.{whole_kind}
use Rattle.kinds.specs.Volume.{volume_kind}
use Rattle.inspection.proofs.Placed.{under_placed}
use Rattle.inspection.proofs.by_kinds.inspect_by_kinds.Goals as goal

pub returns-then-stamps-number-clause-placed : goal.returns-then-stamps-number-clause-placed
returns-then-stamps-number-clause-placed c = under_placed whole_kind.order (slice_index c.args.bytes.now 5) c.args.bytes.now _ c.inspect_under.ensures

pub returns-then-stamps-number-2-clause-placed : goal.returns-then-stamps-number-2-clause-placed
returns-then-stamps-number-2-clause-placed c =
    under_placed volume_kind.order (slice_index c.args.bytes.now 5) c.args.bytes.now _ c.inspect_under-then-stamps-number-2.ensures
