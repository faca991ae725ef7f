use Rattle.std.proofs.Common.{◌∙◌, arith}
use Rattle.archive.proofs.RowLaws.{sliced_rows}
use Rattle.archive.proofs.rows.rows.Goals as goal

pub returns-clause-rows : goal.returns-clause-rows
returns-clause-rows g c = c.as_chunks.ensures.front ∙ sliced_rows g.row.N c.args.count c.args.at c.args.bytes.now (omega arith) (omega arith)
