use Rattle.std.proofs.Common.{length, sym, ap, ◌∙◌}
use Rattle.archive.proofs.KnownArchive.{opening_long}
use Rattle.reader.specs.Stated.{Stated}
use Rattle.reader.proofs.reader.Reader.records.Goals as goal

pub returns : goal.returns
returns g c =
    let a = c.self.inside.archive in
    sym (opening_long g.S.Stamp.kind.order g.R.Record.kind a.bytes.now a.stated c.self.invariant) ∙ ap (λ (v : Stated g.row.S.Denot g.row.R.Denot). length v.opening) c.self.view_is
