use Rattle.writer.proofs.BlockParts.{looks_room, puts_room, block_laid}
use Rattle.writer.proofs.block.lay_block.Goals as goal

pub lay_each-requires : goal.lay_each-requires
lay_each-requires g c =
    looks_room g.S.Stamp.kind.order g.R.Record.kind.form c.args.stamp c.args.ticket c.args.entries.now g.met.S.Stamp.lawful.ordered.formed c.args.pen.now c.requires.1
    c.lay_front.new.pen c.counts-looks.result.0 c.counts-looks.result.1 c.lay_front.ensures

pub lay_each-requires-2 : goal.lay_each-requires-2
lay_each-requires-2 g c =
    puts_room g.S.Stamp.kind.order g.R.Record.kind.form c.args.stamp c.args.ticket c.args.entries.now g.met.S.Stamp.lawful.ordered.formed c.args.pen.now c.requires.1
    c.lay_front.new.pen c.counts-looks.result.0 c.counts-looks.result.1 c.lay_front.ensures c.lay_each.new.pen c.lay_each.ensures

pub returns : goal.returns
returns g c =
    block_laid g.S.Stamp.kind.order g.R.Record.kind.form c.args.stamp c.args.ticket c.args.entries.now g.met.S.Stamp.lawful.ordered.formed c.args.pen.now c.requires.1
    c.lay_front.new.pen c.counts-looks.result.0 c.counts-looks.result.1 c.lay_front.ensures c.lay_each.new.pen c.lay_each.ensures
    c.counts-looks.ensures.looks c.counts-looks.ensures.puts c.lay_each-2.new.pen c.lay_each-2.ensures
