use Rattle.std.proofs.Common.{sym, ap, ◌∙◌, arith}
use Rattle.kinds.specs.Bytes.{Bytes}
use Rattle.archive.specs.Journal.{archive_bytes, stated_opening, stated_journal}
use Rattle.archive.proofs.OneForm.{archive_met}
use Rattle.reader.specs.Stated.{stated}
use Rattle.reader.specs.Rebuilt.{rebuild_leaves}
use Rattle.reader.proofs.Rebuilding.{play_rebuilds}
use Rattle.reader.proofs.reader.Reader.open.Goals as goal

pub returns-clause-one_form : goal.returns-clause-one_form
returns-clause-one_form g c =
    let o = g.S.Stamp.kind.order in
    let k = g.R.Record.kind in
    let t : Bytes c.args.bytes.now = λ i. let b = c.type_inv.bytes i in omega (arith, b) in
    let met = archive_met o k g.met.S.Stamp.lawful.ordered.formed g.met.R.Record.written c.args.bytes.now t c.in_ok-archive.archive.stated (sym c.in_ok-archive.ensures.answer) in
    met.0 ∙ ap (λ bs. archive_bytes o k (stated_opening o k bs) (stated_journal o k bs)) (sym c.in_ok-archive.ensures.bytes)

pub returns-clause-plays : goal.returns-clause-plays
returns-clause-plays g c =
    let o = g.S.Stamp.kind.order in
    let k = g.R.Record.kind in
    λ m space.
    play_rebuilds o k c.args.bytes.now c.in_ok-archive.archive.stated m space (sym c.in_ok-archive.ensures.answer)
    ∙ ap (λ bs. rebuild_leaves (stated o k bs) m space) (sym c.in_ok-archive.ensures.bytes)
