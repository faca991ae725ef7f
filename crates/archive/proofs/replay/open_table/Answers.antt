use Rattle.std.proofs.Common.{◌+◌, ◌*◌, [], get_or, ap, length, ◌∙◌, arith}
use Rattle.archive.proofs.Plays.{table_more}
use Rattle.archive.proofs.RowLaws.{row_of}
use Rattle.archive.proofs.Stands.{part_length}
use Rattle.archive.proofs.replay.open_table.Goals as goal

pub loop-i-preserved : goal.loop-i-preserved
loop-i-preserved c =
    let v = get_or c.opening-value-items.result.now c.loop-i.i [] in
    let r = row_of c.opening-value-items.result.now 12 c.args.archive.now.stated.records (20 + 8 * c.args.archive.now.stated.jobs) c.loop-i.i c.args.archive.now.bytes.now [] c.opening-value-items.ensures.rows (omega arith) in (
      table_more c.args.least.now c.args.archive.now.bytes.now (20 + 8 * c.args.archive.now.stated.jobs) c.args.archive.now.stated.records c.loop-i.i v c.loop-i.table c.lay_row.new.table
          (omega arith) (omega arith) (ap length r ∙ part_length c.args.archive.now.bytes.now ((20 + 8 * c.args.archive.now.stated.jobs) + 12 * c.loop-i.i) 12 (omega arith)) (omega arith) r c.lay_row.ensures ∙ c.loop-i.invariant.0,
      omega arith,
    )
