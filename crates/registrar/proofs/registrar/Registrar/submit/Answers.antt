use Rattle.std.proofs.Common.{length, refl, ap, ◌∙◌, arith, length-take}
use Rattle.registrar.specs.Calls.{registry_in}
use Rattle.registrar.proofs.Wholes.{submit_stops, submit_whole}
use Rattle.registrar.proofs.registrar.Registrar.submit.Goals as goal

pub returns-in-Err : goal.returns-in-Err
returns-in-Err g c =
    submit_stops (registry_in c.args.self.now c.args.tables) c.args.job c.args.sheet.now c.in-Err.refusal c.in-Err.ensures.told

pub next_place-place-requires : goal.next_place-place-requires
next_place-place-requires g c = let counts = c.in_default.ensures.counts refl in omega arith

pub overflow_add-self : goal.overflow_add-self
overflow_add-self g c = let counts = c.in_default.ensures.counts refl in omega arith

pub overflow_add-self-2 : goal.overflow_add-self-2
overflow_add-self-2 g c = let counts = c.in_default.ensures.counts refl in omega arith

pub lay-requires : goal.lay-requires
lay-requires g c =
    let fits = c.in_default.ensures.lengths refl in
    let lengths = fits.0 in
    let n = ap length c.front-entries.ensures ∙ length-take c.args.job.count c.args.sheet.now in
    omega arith

pub returns : goal.returns
returns g c =
    submit_whole (registry_in c.args.self.now c.args.tables) c.args.job c.args.sheet.now c.in_default.ensures.told
    c.front-entries.ensures c.new.ensures c.next_place-place.ensures.place c.store.ensures c.lay.ensures
