use Rattle.std.proofs.Common.{List, sym, ap, ◌∙◌, arith}
use Rattle.std.specs.List.{slice_get}
use Rattle.std.specs.Option.{option_map}
use Rattle.std.proofs.lemmas.Option.{slice_get_past}
use Rattle.law.specs.Daybook.{Look}
use Rattle.archive.specs.Journal.{stated_looks}
use Rattle.archive.proofs.KnownEntries.{looks_stated}
use Rattle.reader.specs.Shown.{look_shown}
use Rattle.reader.proofs.Lists.{look_told}
use Rattle.reader.proofs.looks.Looks.get.Goals as goal

pub returns-then-i-self : goal.returns-then-i-self
returns-then-i-self g c =
    let j = c.self.inside in
    let all = looks_stated g.S.Stamp.kind.order g.R.Record.kind.form j.bytes.now j.left j.at c.self.invariant.noted c.self.invariant.valued in
    let past = slice_get_past (stated_looks g.S.Stamp.kind.order g.R.Record.kind.form j.bytes.now j.at j.left) c.args.i (omega (arith, all, c.if-i-self.true)) in
    sym (ap (option_map look_shown) past) ∙ ap (λ (v : List (Look g.row.S.Denot g.row.R.Denot)). option_map look_shown (slice_get v c.args.i)) c.self.view_is

pub returns : goal.returns
returns g c =
    let j = c.self.inside in
    let told = look_told g.S.Stamp.kind.order g.R.Record.kind.form j.bytes.now j.left j.at c.args.i c.if-i-self.false c.self.invariant.noted c.self.invariant.valued in
    c.read.ensures ∙ sym told ∙ ap (λ (v : List (Look g.row.S.Denot g.row.R.Denot)). option_map look_shown (slice_get v c.args.i)) c.self.view_is
