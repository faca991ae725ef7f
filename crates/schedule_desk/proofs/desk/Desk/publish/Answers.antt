-- What the library answers where it is handed the image that was never published.
use Rattle.std.proofs.Common.{Some, ap, ◌∙◌}
use Rattle.std.proofs.lemmas.Result.{err_from_is_err_and}
use Rattle.registrar.specs.Registry.{with_own}
use Rattle.schedule_desk.specs.Made.{answered}
use Rattle.schedule_desk.specs.declared.answer.Answer.TheVariants.{Image}
use Rattle.schedule_desk.proofs.MadeLaws.{opening_handed, publish_told}
use Rattle.schedule_desk.proofs.desk.Desk.publish.Goals as goal

pub returns-in_err-number : goal.returns-in_err-number
returns-in_err-number g c =
    let e = err_from_is_err_and c.from_residual-in_err-number.result c.from_residual-in_err-number.ensures.1 in
    rw (e.1, e.2)
    (ap (λ a. Some (answered Image a)) (publish_told (ap (λ h. with_own h c.args.self.now.registrar) c.lend.ensures)
    (opening_handed g.S.Stamp.kind.order c.deref.ensures.value c.in_ok-published.ensures.head (c.deref_mut.ensures.value ∙ c.in_ok-published.ensures.rows) (c.deref_mut-2.ensures.value ∙ c.in_ok-published.ensures.outcomes))
    c.in_err-number.ensures))

pub returns : goal.returns
returns g c =
    ap (λ a. Some (answered Image a)) (publish_told (ap (λ h. with_own h c.args.self.now.registrar) c.lend.ensures)
    (opening_handed g.S.Stamp.kind.order c.deref.ensures.value c.in_ok-published.ensures.head (c.deref_mut.ensures.value ∙ c.in_ok-published.ensures.rows) (c.deref_mut-2.ensures.value ∙ c.in_ok-published.ensures.outcomes))
    c.in_ok-number.ensures)
