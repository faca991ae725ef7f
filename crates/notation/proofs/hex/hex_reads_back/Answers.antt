use Rattle.notation.proofs.HexLaws.{reads_back}
use Rattle.notation.proofs.hex.hex_reads_back.Goals as goal

pub returns : goal.returns
returns c = reads_back
