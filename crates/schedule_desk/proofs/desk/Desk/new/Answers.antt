-- A founding is refused by its tables alone.
use Rattle.std.proofs.Common.{rules}
use Rattle.registrar.specs.Calls.{registry_in, no_numbers}
use Rattle.schedule_desk.proofs.Foundings.{no_founding}
use Rattle.schedule_desk.proofs.desk.Desk.new.Goals as goal

pub returns-in_err-registrar-clause-refused : goal.returns-in_err-registrar-clause-refused
returns-in_err-registrar-clause-refused g c =
    let e = no_founding g.S.Stamp.kind.order c.args.values.now (registry_in no_numbers c.lend-2.result) _ c.in_err-registrar.field-0.0 c.in_err-registrar.ensures in
    search (rules, e)
