use Rattle.std.proofs.Common.{◌≡◌, ℕ, sym, ap, ◌∙◌, subst, arith}
use Rattle.std.specs.List.{slice_get}
use Rattle.std.specs.Option.{ok_or, option_map}
use Rattle.std.proofs.lemmas.Option.{slice_get_past}
use Rattle.archive.specs.declared.fault.Fault.TheVariants.{SpaceWrong}
use Rattle.archive.specs.Blocks.{stamp_at}
use Rattle.archive.specs.Journal.{stated_job, stated_journal}
use Rattle.reader.specs.Stated.{Stated}
use Rattle.reader.proofs.Journal.{CanRead, journal_long, job_found}
use Rattle.reader.proofs.reader.Reader.job.Goals as goal

pub returns-then-k-archive : goal.returns-then-k-archive
returns-then-k-archive g c =
    let o = g.S.Stamp.kind.order in
    let k = g.R.Record.kind in
    let a = c.self.inside.archive in
    let all = journal_long o k a.bytes.now a.stated c.self.invariant in
    let past = slice_get_past (stated_journal o k a.bytes.now) c.args.k (omega (arith, all, c.if-k-archive.true)) in
    sym (ap (λ j. ok_or j SpaceWrong) past) ∙ ap (λ (v : Stated g.row.S.Denot g.row.R.Denot). ok_or (slice_get v.journal c.args.k) SpaceWrong) c.self.view_is

pub read-requires : goal.read-requires
read-requires g c =
    let o = g.S.Stamp.kind.order in
    let k = g.R.Record.kind in
    let a = c.self.inside.archive in
    let found = job_found o k a.bytes.now a.stated c.args.k c.self.invariant c.if-k-archive.false in
    let P : ℕ → Type 0 = λ at. CanRead o k.form a.bytes.now at in
    subst P (sym c.number_at-at.ensures) found.readable

pub returns : goal.returns
returns g c =
    let o = g.S.Stamp.kind.order in
    let k = g.R.Record.kind in
    let a = c.self.inside.archive in
    let found = job_found o k a.bytes.now a.stated c.args.k c.self.invariant c.if-k-archive.false in
    let read : c.read.result ≡ slice_get (stated_journal o k a.bytes.now) c.args.k =
    c.read.ensures ∙ ap (λ at. option_map (stated_job o k.form a.bytes.now at) (stamp_at o a.bytes.now at)) c.number_at-at.ensures ∙ sym found.found_is in
    c.ok_or.ensures.value ∙ ap (λ j. ok_or j SpaceWrong) read ∙ ap (λ (v : Stated g.row.S.Denot g.row.R.Denot). ok_or (slice_get v.journal c.args.k) SpaceWrong) c.self.view_is
