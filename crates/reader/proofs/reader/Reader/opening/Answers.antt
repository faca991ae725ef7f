use Rattle.std.proofs.Common.{◌≡◌, ◌+◌, ◌*◌, OnOk, Ok, Err, Result, cond, length, sym, ap, ◌∙◌, subst, eq-eqb, arith}
use Rattle.archive.specs.declared.fault.Fault.{Fault}
use Rattle.archive.specs.declared.fault.Fault.TheVariants.{SpaceWrong}
use Rattle.archive.specs.Journal.{stated_opening}
use Rattle.archive.specs.Values.{read_values, stated_values}
use Rattle.archive.proofs.KnownArchive.{opening_long}
use Rattle.reader.specs.Stated.{Stated}
use Rattle.reader.proofs.Journal.{opening_is, opening_read}
use Rattle.reader.proofs.reader.Reader.opening.Goals as goal

pub load-requires : goal.load-requires
load-requires g c =
    let o = g.S.Stamp.kind.order in
    let k = g.R.Record.kind in
    let a = c.self.inside.archive in
    let all = opening_long o k a.bytes.now a.stated c.self.invariant in
    let e : length (stated_opening o k a.bytes.now) ≡ length c.args.self.now.opening = ap (λ (v : Stated g.row.S.Denot g.row.R.Denot). length v.opening) c.self.view_is in
    omega (arith, c.start.ensures, c.records.ensures, c.if-space-records.false, all, e, a.long)

pub returns : goal.returns
returns g c =
    let o = g.S.Stamp.kind.order in
    let k = g.R.Record.kind in
    let a = c.self.inside.archive in
    let bs = a.bytes.now in
    let n = length c.args.space.now in
    let all = opening_long o k bs a.stated c.self.invariant in
    let e : length (stated_opening o k bs) ≡ length c.args.self.now.opening = ap (λ (v : Stated g.row.S.Denot g.row.R.Denot). length v.opening) c.self.view_is in
    let size : length c.args.space.now ≡ length c.args.self.now.opening = c.if-space-records.false ∙ c.records.ensures in
    let many : length c.args.space.now ≡ a.stated.records = size ∙ sym e ∙ all in
    let here = ap (λ at. read_values k.form bs at 12 n) c.start.ensures ∙ ap (λ m. read_values k.form bs (20 + 8 * a.stated.jobs) 12 m) many in
    let well = c.load.ensures.answer ∙ here ∙ opening_read o k bs a.stated c.self.invariant in
    let Filled : Result (Unit {0}) Fault → Type 0 = λ r. OnOk r (c.load.new.space ≡ stated_values k.form bs c.start.result 12 n) in
    let values = ap (λ at. stated_values k.form bs at 12 n) c.start.ensures ∙ ap (λ m. stated_values k.form bs (20 + 8 * a.stated.jobs) 12 m) many in
    let opens = ap (λ (v : Stated g.row.S.Denot g.row.R.Denot). v.opening) c.self.view_is in
    let fits = eq-eqb _ _ size in
    record {
      answer = well ∙ sym (ap (λ b. cond b (Ok tt) (Err SpaceWrong)) fits);
      leaves = subst Filled well c.load.ensures.filled ∙ values ∙ sym (opening_is o k bs a.stated c.self.invariant) ∙ opens ∙ sym (ap (λ b. cond b c.args.self.now.opening c.args.space.now) fits);
    }
