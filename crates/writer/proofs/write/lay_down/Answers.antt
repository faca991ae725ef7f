use Rattle.std.proofs.Common.{Err, length, ap, ◌∙◌, arith}
use Rattle.std.proofs.lemmas.Result.{err_from_is_err_and}
use Rattle.model.specs.Tables.{laid}
use Rattle.law.specs.HandOver.{registry_in_books}
use Rattle.writer.specs.Jobs.{whole_of}
use Rattle.writer.specs.Written.{writing_as}
use Rattle.writer.proofs.Wholes.{archive_same, few_values, few_jobs, size_sized, size_length, write_refused, write_short, write_told}
use Rattle.writer.proofs.write.lay_down.Goals as goal

pub returns-in_err-len : goal.returns-in_err-len
returns-in_err-len g c =
    let p = err_from_is_err_and c.from_residual.result c.from_residual.ensures.1 in
    ap (λ r. writing_as r c.args.space.now) (p.1 ∙ ap Err p.2) ∙ write_refused g.S.Stamp.kind.order g.R.Record.kind (registry_in_books c.args.books) _ c.args.space.now c.in_err-len.ensures

pub returns-then-space-len : goal.returns-then-space-len
returns-then-space-len g c = write_short g.S.Stamp.kind.order g.R.Record.kind (registry_in_books c.args.books) c.in_ok-len.len c.args.space.now c.in_ok-len.ensures c.if-space-len.true

pub lay_archive-requires : goal.lay_archive-requires
lay_archive-requires g c =
    let o = g.S.Stamp.kind.order in
    let k = g.R.Record.kind in
    let b = c.args.books in
    let r = registry_in_books b in
    let h = size_sized o k r c.in_ok-len.len c.in_ok-len.ensures in
    let j = few_jobs o k r h in
    let n = size_length o k r c.in_ok-len.len c.in_ok-len.ensures in
    let w = ap length (ap (whole_of o k b.opening.now b.lines.now) c.front-heads.ensures ∙ archive_same o k r) in
    (few_values o k r h, (omega (arith, j, ap length c.front-heads.ensures), omega (arith, n, w)))

pub returns : goal.returns
returns g c =
    let o = g.S.Stamp.kind.order in
    let k = g.R.Record.kind in
    let b = c.args.books in
    let r = registry_in_books b in
    write_told o k r c.in_ok-len.len c.args.space.now c.lay_archive.new.space c.in_ok-len.ensures (omega arith)
    (c.lay_archive.ensures ∙ ap (λ xs. laid xs c.args.space.now) (ap (whole_of o k b.opening.now b.lines.now) c.front-heads.ensures ∙ archive_same o k r))
