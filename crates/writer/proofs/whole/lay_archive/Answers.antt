use Rattle.std.proofs.Common.{length, ap, rules, arith}
use Rattle.writer.specs.Jobs.{whole_of}
use Rattle.writer.proofs.Pens.{leaves}
use Rattle.writer.proofs.whole.lay_archive.Goals as goal

pub lay_parts-requires : goal.lay_parts-requires
lay_parts-requires g c =
    (c.requires.0, (c.requires.1.0, omega (arith, ap length c.new-pen.ensures.space, c.new-pen.ensures.at, c.requires.1.1)))

pub returns : goal.returns
returns g c =
    let e = leaves c.new-pen.result c.lay_parts.new.pen (whole_of g.S.Stamp.kind.order g.R.Record.kind c.args.opening.now c.args.lines.now c.args.heads.now) c.args.space.now c.new-pen.ensures.at c.new-pen.ensures.space c.lay_parts.ensures in
    search (rules, e)
