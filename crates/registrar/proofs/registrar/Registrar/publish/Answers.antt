use Rattle.std.proofs.Common.{length, sym, refl, ap, ◌∙◌, arith, length-take}
use Rattle.registrar.specs.Calls.{registry_in, image_with}
use Rattle.registrar.proofs.Wholes.{only_none, publish_misfit, publish_ended, publish_whole}
use Rattle.registrar.proofs.registrar.Registrar.publish.Goals as goal

pub returns-then-not-fits : goal.returns-then-not-fits
returns-then-not-fits g c =
    publish_misfit (registry_in c.args.self.now c.args.tables) (image_with c.args.head.now c.args.rows.now c.args.outcomes.now)
    (sym c.if-not-fit.ensures.told) (sym c.if-not-fits.ensures.told)

pub returns-then-self : goal.returns-then-self
returns-then-self g c =
    publish_ended (registry_in c.args.self.now c.args.tables) (image_with c.args.head.now c.args.rows.now c.args.outcomes.now)
    (sym c.if-not-fit.ensures.told) (sym c.if-not-fits.ensures.told) (omega arith)

pub show_all-requires : goal.show_all-requires
show_all-requires g c =
    let fits = c.if-not-fit.ensures.lengths refl in
    record { rows = (c.if-not-fits.ensures.lengths refl).0 ∙ sym fits.rows; firsts = fits.firsts ∙ sym fits.rows }

pub lay-requires : goal.lay-requires
lay-requires g c =
    let fits = c.if-not-fit.ensures.lengths refl in
    let heard = (c.if-not-fits.ensures.lengths refl).1 in
    let n = ap length c.front-news.ensures ∙ length-take c.args.self.now.outcomes c.args.tables.outcomes.now in
    omega arith

pub returns : goal.returns
returns g c =
    publish_whole (registry_in c.args.self.now c.args.tables) (image_with c.args.head.now c.args.rows.now c.args.outcomes.now)
    (sym c.if-not-fit.ensures.told) (sym c.if-not-fits.ensures.told) (omega arith)
    c.show_all.ensures (c.fill.ensures.after (only_none _ (λ s k. k))) c.front-news.ensures c.lay.ensures
