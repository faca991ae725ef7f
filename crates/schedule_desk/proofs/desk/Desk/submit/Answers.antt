-- What the library answers of the job that is named.
use Rattle.std.proofs.Common.{Some, Ok, sym, ap, ◌∙◌}
use Rattle.std.specs.Option.{option_map}
use Rattle.registrar.specs.Registry.{with_own, submit}
use Rattle.office.specs.Store.{registry_kept}
use Rattle.schedule_desk.specs.Held.{station_held}
use Rattle.schedule_desk.specs.Made.{answered}
use Rattle.schedule_desk.specs.declared.answer.Answer.TheVariants.{Ticket}
use Rattle.schedule_desk.proofs.MadeLaws.{submit_told}
use Rattle.schedule_desk.proofs.desk.Desk.submit.Goals as goal

pub returns-in_ok-keep-in-Ok : goal.returns-in_ok-keep-in-Ok
returns-in_ok-keep-in-Ok g c =
    ap (option_map (λ t. answered Ticket (submit (registry_kept c.args.self.now.registrar c.args.self.now.store) (station_held t)).answer)) c.in_ok-name.ensures.job
    ∙ ap (λ a. Some (answered Ticket a)) (submit_told c.in_ok-name.field-0-1.job (ap (λ h. with_own h c.args.self.now.registrar) c.lend.ensures) c.deref.ensures.value c.in-Ok.ensures)
    ∙ ap (λ n. Some (Ok (Ticket n))) (sym c.number-number.ensures)

pub returns-in_ok-keep-in-Err : goal.returns-in_ok-keep-in-Err
returns-in_ok-keep-in-Err g c =
    rw c.into.ensures
    (ap (option_map (λ t. answered Ticket (submit (registry_kept c.args.self.now.registrar c.args.self.now.store) (station_held t)).answer)) c.in_ok-name.ensures.job
    ∙ ap (λ a. Some (answered Ticket a)) (submit_told c.in_ok-name.field-0-1.job (ap (λ h. with_own h c.args.self.now.registrar) c.lend.ensures) c.deref.ensures.value c.in-Err.ensures))
