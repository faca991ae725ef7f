use Rattle.std.proofs.Common.{sym, arith}
use Rattle.registrar.specs.Calls.{registry_in}
use Rattle.registrar.proofs.Wholes.{submit_sheet, submit_full, submit_ended, submit_ready}
use Rattle.registrar.proofs.registrar.Registrar.admit.Goals as goal

pub returns-then-sheet-ne16-clause-told : goal.returns-then-sheet-ne16-clause-told
returns-then-sheet-ne16-clause-told g c =
    submit_sheet (registry_in c.args.self.now c.args.tables.now) c.args.job.now c.args.sheet.now (sym c.if-not-fit.ensures.told) c.if-sheet-ne16.true

pub returns-then-self-ge16-clause-told : goal.returns-then-self-ge16-clause-told
returns-then-self-ge16-clause-told g c =
    submit_full (registry_in c.args.self.now c.args.tables.now) c.args.job.now c.args.sheet.now (sym c.if-not-fit.ensures.told)
    c.if-sheet-ne16.false (sym c.if-is_shut.ensures) c.front.ensures (sym c.if-beyond.ensures) c.if-self-ge16.true

pub returns-then-self-clause-told : goal.returns-then-self-clause-told
returns-then-self-clause-told g c =
    submit_ended (registry_in c.args.self.now c.args.tables.now) c.args.job.now c.args.sheet.now (sym c.if-not-fit.ensures.told)
    c.if-sheet-ne16.false (sym c.if-is_shut.ensures) c.front.ensures (sym c.if-beyond.ensures) c.if-self-ge16.false (omega arith)

pub returns-clause-told : goal.returns-clause-told
returns-clause-told g c =
    submit_ready (registry_in c.args.self.now c.args.tables.now) c.args.job.now c.args.sheet.now (sym c.if-not-fit.ensures.told)
    c.if-sheet-ne16.false (sym c.if-is_shut.ensures) c.front.ensures (sym c.if-beyond.ensures) (omega arith) (omega arith)
