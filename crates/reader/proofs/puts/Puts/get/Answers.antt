use Rattle.std.proofs.Common.{List, sym, ap, ◌∙◌, arith}
use Rattle.std.specs.List.{slice_get}
use Rattle.std.specs.Option.{option_map}
use Rattle.std.proofs.lemmas.Option.{slice_get_past}
use Rattle.law.specs.Daybook.{Put}
use Rattle.archive.specs.Journal.{stated_puts}
use Rattle.archive.proofs.KnownEntries.{puts_stated}
use Rattle.reader.specs.Shown.{put_shown}
use Rattle.reader.proofs.Lists.{put_told}
use Rattle.reader.proofs.puts.Puts.get.Goals as goal

pub returns-then-i-self : goal.returns-then-i-self
returns-then-i-self g c =
    let j = c.self.inside in
    let all = puts_stated g.S.Stamp.kind.order g.R.Record.kind.form j.bytes.now j.left j.at c.self.invariant.valued in
    let past = slice_get_past (stated_puts g.S.Stamp.kind.order g.R.Record.kind.form j.bytes.now j.at j.left) c.args.i (omega (arith, all, c.if-i-self.true)) in
    sym (ap (option_map put_shown) past) ∙ ap (λ (v : List (Put g.row.R.Denot)). option_map put_shown (slice_get v c.args.i)) c.self.view_is

pub returns : goal.returns
returns g c =
    let j = c.self.inside in
    let told = put_told g.S.Stamp.kind.order g.R.Record.kind.form j.bytes.now j.left j.at c.args.i c.if-i-self.false c.self.invariant.valued in
    c.read.ensures ∙ sym told ∙ ap (λ (v : List (Put g.row.R.Denot)). option_map put_shown (slice_get v c.args.i)) c.self.view_is
