use Rattle.std.proofs.Common.{◌<◌, get_or, arith, rules}
use Rattle.std.proofs.Output.{has_written_append, has_written_of_eq}
use Rattle.notation.proofs.HexLaws.{hex_printed}
use Rattle.notation.proofs.hex.HexDisplay.fmt.Goals as goal

pub loop-byte-preserved : goal.loop-byte-preserved
loop-byte-preserved g c plain =
    let bytes = c.args.self.now.0.now in
    let small : get_or bytes c.loop-byte.byte-index 0 < 256 = omega arith in
    has_written_of_eq _ _ _ _ _ (hex_printed bytes c.loop-byte.byte-index c.loop-byte-test.true small) (has_written_append _ _ _ _ _ _ (c.loop-byte.invariant plain) (search rules))
