use Rattle.archive.proofs.LengthTable.{table_right}
use Rattle.archive.proofs.lengths.listed.Goals as goal

pub returns : goal.returns
returns c = table_right c.args.place c.requires
