use Rattle.writer.proofs.Parts.{heading_room, directory_room, opening_room, blocks_room, whole_laid}
use Rattle.writer.proofs.whole.lay_parts.Goals as goal

pub lay_heading-requires : goal.lay_heading-requires
lay_heading-requires g c =
    heading_room g.S.Stamp.kind.order g.R.Record.kind c.args.opening.now c.args.lines.now c.args.heads.now g.met.R.Record.written c.args.pen.now c.requires.1.1

pub lay_directory-requires : goal.lay_directory-requires
lay_directory-requires g c =
    let room =
    directory_room g.S.Stamp.kind.order g.R.Record.kind c.args.opening.now c.args.lines.now c.args.heads.now g.met.R.Record.written c.args.pen.now c.requires.1.1
    c.lay_heading.new.pen c.lay_heading.ensures in
    (c.requires.0, (c.requires.1.0, room))

pub lay_each-requires : goal.lay_each-requires
lay_each-requires g c =
    opening_room g.S.Stamp.kind.order g.R.Record.kind c.args.opening.now c.args.lines.now c.args.heads.now g.met.R.Record.written c.args.pen.now c.requires.1.1
    c.lay_heading.new.pen c.lay_heading.ensures c.lay_directory.new.pen c.lay_directory.ensures

pub lay_blocks-requires : goal.lay_blocks-requires
lay_blocks-requires g c =
    blocks_room g.S.Stamp.kind.order g.R.Record.kind c.args.opening.now c.args.lines.now c.args.heads.now g.met.R.Record.written c.args.pen.now c.requires.1.1
    c.lay_heading.new.pen c.lay_heading.ensures c.lay_directory.new.pen c.lay_directory.ensures c.lay_each.new.pen c.lay_each.ensures

pub returns : goal.returns
returns g c =
    whole_laid g.S.Stamp.kind.order g.R.Record.kind c.args.opening.now c.args.lines.now c.args.heads.now g.met.R.Record.written c.args.pen.now c.requires.1.1
    c.lay_heading.new.pen c.lay_heading.ensures c.lay_directory.new.pen c.lay_directory.ensures c.lay_each.new.pen c.lay_each.ensures c.lay_blocks.new.pen c.lay_blocks.ensures
