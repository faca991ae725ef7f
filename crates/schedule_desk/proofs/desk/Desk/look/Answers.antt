-- What the library answers of the job and the image that are named.
use Rattle.std.proofs.Common.{◌∙◌}
use Rattle.std.proofs.lemmas.Result.{err_from_is_err_and}
use Rattle.station.specs.Heard.{heard}
use Rattle.station.specs.Station.{look_job}
use Rattle.schedule_desk.specs.declared.answer.Answer.TheVariants.{Value}
use Rattle.schedule_desk.proofs.MadeLaws.{of_both, of_one, answer_at, image_shown, no_image}
use Rattle.schedule_desk.proofs.desk.Desk.look.Goals as goal

pub returns-in_err-image : goal.returns-in_err-image
returns-in_err-image g c =
    let e = err_from_is_err_and c.from_residual-in_err-image.result c.from_residual-in_err-image.ensures.1 in
    rw (e.1, e.2) (of_one _ _ _ c.in_ok-station.station.now c.in_ok-station.ensures (no_image c.args.self.now c.deref.ensures.value c.image.ensures c.in_err-image.ensures))

pub returns-in_err-value : goal.returns-in_err-value
returns-in_err-value g c =
    let e = err_from_is_err_and c.from_residual-in_err-value.result c.from_residual-in_err-value.ensures.1 in
    rw (e.1, e.2)
    (of_both _ _ _ c.in_ok-station.station.now _ c.in_ok-station.ensures (image_shown c.args.self.now c.deref.ensures.value c.image.ensures c.in_ok-image.ensures)
    ∙ answer_at Value (λ t. look_job g.S.Stamp.kind t (heard c.in_ok-image.image) c.args.number) c.in_ok-station.station.now c.deref_mut.ensures.value c.in_err-value.ensures)

pub returns : goal.returns
returns g c =
    of_both _ _ _ c.in_ok-station.station.now _ c.in_ok-station.ensures (image_shown c.args.self.now c.deref.ensures.value c.image.ensures c.in_ok-image.ensures)
    ∙ answer_at Value (λ t. look_job g.S.Stamp.kind t (heard c.in_ok-image.image) c.args.number) c.in_ok-station.station.now c.deref_mut.ensures.value c.in_ok-value.ensures
