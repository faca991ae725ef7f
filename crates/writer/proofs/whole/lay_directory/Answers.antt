use Rattle.std.proofs.Common.{◌+◌, ◌*◌, ◌++◌, length, arith}
use Rattle.kinds.specs.Bytes.{be4}
use Rattle.archive.specs.Directory.{pairs_bytes}
use Rattle.writer.specs.Jobs.{lengths_of}
use Rattle.writer.proofs.Pens.{lays_room, lays_both}
use Rattle.writer.proofs.whole.lay_directory.Goals as goal

pub lay_pairs-requires : goal.lay_pairs-requires
lay_pairs-requires g c =
    (omega arith, (c.requires.1.0, lays_room c.args.pen.now c.lay_pair.new.pen (be4 (20 + 8 * length c.args.heads.now) ++ be4 (12 * c.args.records)) (8 * length c.args.heads.now) c.requires.1.1 c.lay_pair.ensures))

pub returns : goal.returns
returns g c =
    lays_both c.args.pen.now c.lay_pair.new.pen c.lay_pairs.new.pen (be4 (20 + 8 * length c.args.heads.now) ++ be4 (12 * c.args.records))
    (pairs_bytes (20 + 8 * length c.args.heads.now + 12 * c.args.records) (lengths_of g.S.Stamp.kind.order g.R.Record.kind.form c.args.lines.now c.args.heads.now)) (omega arith)
    c.lay_pair.ensures c.lay_pairs.ensures
