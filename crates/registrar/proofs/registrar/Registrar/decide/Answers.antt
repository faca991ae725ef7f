use Rattle.std.proofs.Common.{◌%◌, ◌<◌, length, take, sym, refl, ap, ◌∙◌, add-zero, arith, length-take, rules}
use Rattle.model.specs.Tables.{laid}
use Rattle.registrar.specs.Registry.{entered}
use Rattle.registrar.specs.Calls.{registry_in}
use Rattle.registrar.proofs.Decisions.{stamped, unstamped, own_decided, decide_beyond, decide_full, decide_crowded, decide_whole}
use Rattle.registrar.proofs.registrar.Registrar.decide.Goals as goal
use Rattle.registrar.proofs.registrar.Registrar.decide.Goals.{in-Some, in_default}

pub bounds-queue-place : goal.bounds-queue-place
bounds-queue-place g c = let fits = c.if-not-fit.ensures.lengths refl in omega arith

pub offset_bounds-queue-place : goal.offset_bounds-queue-place
offset_bounds-queue-place g c =
    let fits = c.if-not-fit.ensures.lengths refl in
    let l : c.args.self.now.oldest % 16 < length c.args.tables.queue.now = omega arith in
    search rules

pub block-requires : goal.block-requires
block-requires g c = let fits = c.if-not-fit.ensures.lengths refl in omega arith

pub returns-then-beyond : goal.returns-then-beyond
returns-then-beyond g c =
    decide_beyond g.S.Stamp.kind (registry_in c.args.self.now c.args.tables) c.index-queue-place.result c.front-entries.result.now
    (sym c.if-not-fit.ensures.told) c.if-self-eq0.false (c.if-not-fit.ensures.lengths refl).queue c.index-queue-place.is
    (c.front-entries.ensures ∙ ap (take c.index-queue-place.result.count) c.block.ensures) (sym c.if-beyond.ensures)

pub returns-then-self-heads : goal.returns-then-self-heads
returns-then-self-heads g c =
    decide_full g.S.Stamp.kind (registry_in c.args.self.now c.args.tables) c.index-queue-place.result c.front-entries.result.now
    (sym c.if-not-fit.ensures.told) c.if-self-eq0.false (c.if-not-fit.ensures.lengths refl).queue c.index-queue-place.is
    (c.front-entries.ensures ∙ ap (take c.index-queue-place.result.count) c.block.ensures) (sym c.if-beyond.ensures) c.if-self-heads.true

pub returns-then-self-ge32 : goal.returns-then-self-ge32
returns-then-self-ge32 g c =
    decide_crowded g.S.Stamp.kind (registry_in c.args.self.now c.args.tables) c.index-queue-place.result c.front-entries.result.now
    (sym c.if-not-fit.ensures.told) c.if-self-eq0.false (c.if-not-fit.ensures.lengths refl).queue c.index-queue-place.is
    (c.front-entries.ensures ∙ ap (take c.index-queue-place.result.count) c.block.ensures) (sym c.if-beyond.ensures) c.if-self-heads.false c.if-self-ge32.true

pub head_of-head-requires-clause-count : goal.head_of-head-requires-clause-count
head_of-head-requires-clause-count g c =
    let b = ap length c.block.ensures ∙ length-take 16 _ in
    let n = ap length c.front-entries.ensures ∙ length-take c.index-queue-place.result.count c.block.result.now in
    omega arith

pub lay-requires : goal.lay-requires
lay-requires g c =
    let fits = c.if-not-fit.ensures.lengths refl in
    let b = ap length c.block.ensures ∙ length-take 16 _ in
    let n = ap length c.front-entries.ensures ∙ length-take c.index-queue-place.result.count c.block.result.now in
    omega arith

pub returns : goal.returns
returns g c =
    let v = c.verdict-verdict.result in
    let own = c.args.self.now in
    elim c.match-stamp_of.branch [
      | in-Some w ↦
          decide_whole g.S.Stamp.kind (registry_in own c.args.tables) c.index-queue-place.result c.front-entries.result.now
          (sym c.if-not-fit.ensures.told) c.if-self-eq0.false (c.if-not-fit.ensures.lengths refl).queue c.index-queue-place.is
          (c.front-entries.ensures ∙ ap (take c.index-queue-place.result.count) c.block.ensures) (sym c.if-beyond.ensures) c.if-self-heads.false c.if-self-ge32.false
          c.verdict-verdict.ensures (stamped v w.in-Some.ensures 0 (λ _. 1)) (w.self-is ∙ own_decided own 1 c.min.ensures refl)
          (w.rows-is ∙ w.enter_all.ensures ∙ stamped v w.in-Some.ensures _ _) (w.firsts-is ∙ w.mark_all.ensures ∙ stamped v w.in-Some.ensures _ _)
          (w.heads-is ∙ w.record.ensures ∙ ap (λ h. laid (entered g.S.Stamp.kind.order h (take own.jobs c.args.tables.heads.now)) c.args.tables.heads.now) w.head_of-head.ensures ∙ stamped v w.in-Some.ensures _ _) (w.lines-is ∙ w.lay.ensures ∙ stamped v w.in-Some.ensures _ _) c.store.ensures
      | in_default w ↦
          decide_whole g.S.Stamp.kind (registry_in own c.args.tables) c.index-queue-place.result c.front-entries.result.now
          (sym c.if-not-fit.ensures.told) c.if-self-eq0.false (c.if-not-fit.ensures.lengths refl).queue c.index-queue-place.is
          (c.front-entries.ensures ∙ ap (take c.index-queue-place.result.count) c.block.ensures) (sym c.if-beyond.ensures) c.if-self-heads.false c.if-self-ge32.false
          c.verdict-verdict.ensures (unstamped v w.in_default.ensures 0 (λ _. 1)) (w.self-is ∙ own_decided own 0 c.min.ensures (sym (add-zero own.jobs)))
          (w.rows-is ∙ unstamped v w.in_default.ensures _ _) (w.firsts-is ∙ unstamped v w.in_default.ensures _ _)
          (w.heads-is ∙ unstamped v w.in_default.ensures _ _) (w.lines-is ∙ unstamped v w.in_default.ensures _ _) c.store.ensures
    ]
