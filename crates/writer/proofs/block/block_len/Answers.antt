use Rattle.std.proofs.Common.{◌≡◌, ◌+◌, ◌*◌, is_some, Some, ap, arith}
use Rattle.archive.specs.Lengths.{block_length}
use Rattle.writer.proofs.Entries.{listed_some}
use Rattle.writer.proofs.block.block_len.Goals as goal

pub unwrap-requires : goal.unwrap-requires
unwrap-requires g c = ap is_some (listed_some c.length_of.result c.counts-looks.result.0 c.counts-looks.result.1 (omega arith) (omega arith) c.length_of.ensures)

pub returns : goal.returns
returns g c =
    let r = c.counts-looks.result.0 in
    let p = c.counts-looks.result.1 in
    let e : c.length_of.result ≡ Some (block_length r p) = listed_some c.length_of.result r p (omega arith) (omega arith) c.length_of.ensures in
    let v : c.unwrap.result ≡ 16 + 22 * r + 14 * p = cc in
    record { long = omega (arith, v); most = omega (arith, v) }
