use Rattle.std.proofs.Common.{length, sym, ap, ◌∙◌}
use Rattle.archive.proofs.KnownEntries.{puts_stated}
use Rattle.reader.proofs.puts.Puts.len.Goals as goal

pub returns : goal.returns
returns g c =
    let j = c.self.inside in
    sym (puts_stated g.S.Stamp.kind.order g.R.Record.kind.form j.bytes.now j.left j.at c.self.invariant.valued) ∙ ap length c.self.view_is
