use Rattle.std.proofs.Common.{◌≡◌, ◌+◌, ◌*◌, true, length, sym, ap, ◌∙◌, arith}
use Rattle.registrar.specs.Registry.{registry_sized}
use Rattle.law.specs.HandOver.{registry_in_books}
use Rattle.writer.specs.Jobs.{whole_of}
use Rattle.writer.proofs.Wholes.{archive_same, whole_long, few_values, few_jobs, size_told}
use Rattle.writer.proofs.write.size.Goals as goal

pub overflow_mul-result-2 : goal.overflow_mul-result-2
overflow_mul-result-2 g c =
    let v = few_values g.S.Stamp.kind.order g.R.Record.kind (registry_in_books c.args.books) (sym c.fit.ensures ∙ c.if-not-fit.false) in
    omega (arith, v)

pub overflow_add-result-2 : goal.overflow_add-result-2
overflow_add-result-2 g c =
    let o = g.S.Stamp.kind.order in
    let k = g.R.Record.kind in
    let h : registry_sized (registry_in_books c.args.books) ≡ true = sym c.fit.ensures ∙ c.if-not-fit.false in
    omega (arith, few_values o k (registry_in_books c.args.books) h, few_jobs o k (registry_in_books c.args.books) h, ap length c.front-heads.ensures)

pub blocks_len-requires : goal.blocks_len-requires
blocks_len-requires g c =
    let j = few_jobs g.S.Stamp.kind.order g.R.Record.kind (registry_in_books c.args.books) (sym c.fit.ensures ∙ c.if-not-fit.false) in
    omega (arith, j, ap length c.front-heads.ensures)

pub overflow_add-result-3 : goal.overflow_add-result-3
overflow_add-result-3 g c =
    let o = g.S.Stamp.kind.order in
    let k = g.R.Record.kind in
    let h : registry_sized (registry_in_books c.args.books) ≡ true = sym c.fit.ensures ∙ c.if-not-fit.false in
    omega (arith, few_values o k (registry_in_books c.args.books) h, few_jobs o k (registry_in_books c.args.books) h, ap length c.front-heads.ensures, c.blocks_len.ensures.most)

pub returns : goal.returns
returns g c =
    let o = g.S.Stamp.kind.order in
    let k = g.R.Record.kind in
    let b = c.args.books in
    let w = whole_long o k b.opening.now b.lines.now c.front-heads.result.now g.met.R.Record.written in
    let n : 20 + 8 * length c.front-heads.result.now + 12 * length b.opening.now + c.blocks_len.result ≡ length (whole_of o k b.opening.now b.lines.now c.front-heads.result.now) = omega (arith, w, c.blocks_len.ensures.long) in
    size_told o k (registry_in_books b) _ (sym c.fit.ensures ∙ c.if-not-fit.false)
    (n ∙ ap length (ap (whole_of o k b.opening.now b.lines.now) c.front-heads.ensures ∙ archive_same o k (registry_in_books b)))
