use Rattle.std.proofs.Common.{replicate, None, sym, refl, ap, ◌∙◌}
use Rattle.registrar.proofs.Wholes.{only_none, found_whole}
use Rattle.registrar.proofs.registrar.Registrar.found.Goals as goal

pub new_rows-requires : goal.new_rows-requires
new_rows-requires g c = (c.if-not-fit.ensures.lengths refl).rows

pub copy_from_slice-requires : goal.copy_from_slice-requires
copy_from_slice-requires g c = (c.if-not-fit.ensures.lengths refl).opening

pub returns : goal.returns
returns g c =
    let fits = c.if-not-fit.ensures.lengths refl in
    found_whole g.S.Stamp.kind.order c.args.values.now _ (sym c.if-not-fit.ensures.told)
    c.new_rows.ensures (c.fill.ensures.after (only_none _ (λ s k. k)) ∙ ap (λ n. replicate n None) fits.firsts) c.copy_from_slice.ensures.after
