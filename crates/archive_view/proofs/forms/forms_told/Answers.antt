use Rattle.std.proofs.Common.{length, sym, ap}
use Rattle.std.proofs.lemmas.Result.{err_from_is_err_and}
use Rattle.archive_view.specs.Played.{answered, left_behind}
use Rattle.archive_view.proofs.Fits.{not_played, not_written, written}
use Rattle.archive_view.proofs.forms.forms_told.Goals as goal

pub returns-in_err-play-clause-answer : goal.returns-in_err-play-clause-answer
returns-in_err-play-clause-answer g c =
    let p = err_from_is_err_and c.from_residual.result c.from_residual.ensures.1 in
    let t = not_played g.S.Stamp.kind.order g.R.Record.kind c.args.bytes.now (length c.args.space.now) c.args.jobs c.args.values.now c.requires _ c.in_err-play.ensures.answer in
    rw (p.1, p.2) (sym (ap answered t))

pub returns-in_err-play-clause-leaves : goal.returns-in_err-play-clause-leaves
returns-in_err-play-clause-leaves g c =
    let t = not_played g.S.Stamp.kind.order g.R.Record.kind c.args.bytes.now (length c.args.space.now) c.args.jobs c.args.values.now c.requires _ c.in_err-play.ensures.answer in
    sym (ap (λ r. left_behind r c.args.space.now) t)

pub returns-then-space-room-clause-answer : goal.returns-then-space-room-clause-answer
returns-then-space-room-clause-answer g c =
    let t = not_written g.S.Stamp.kind.order g.R.Record.kind c.args.bytes.now (length c.args.space.now) c.args.jobs c.args.values.now _ c.in_ok-play.ensures.answer c.if-space-room.true in
    sym (ap answered t)

pub returns-then-space-room-clause-leaves : goal.returns-then-space-room-clause-leaves
returns-then-space-room-clause-leaves g c =
    let t = not_written g.S.Stamp.kind.order g.R.Record.kind c.args.bytes.now (length c.args.space.now) c.args.jobs c.args.values.now _ c.in_ok-play.ensures.answer c.if-space-room.true in
    sym (ap (λ r. left_behind r c.args.space.now) t)

pub returns-clause-answer : goal.returns-clause-answer
returns-clause-answer g c =
    let t = written g.S.Stamp.kind.order g.R.Record.kind c.args.bytes.now (length c.args.space.now) c.args.jobs c.args.values.now _ _ _ c.in_ok-play.ensures.answer c.if-space-room.false c.in_ok-play.ensures.leaves c.write.ensures in
    sym (ap answered t)

pub returns-clause-leaves : goal.returns-clause-leaves
returns-clause-leaves g c =
    let t = written g.S.Stamp.kind.order g.R.Record.kind c.args.bytes.now (length c.args.space.now) c.args.jobs c.args.values.now _ _ _ c.in_ok-play.ensures.answer c.if-space-room.false c.in_ok-play.ensures.leaves c.write.ensures in
    sym (ap (λ r. left_behind r c.args.space.now) t)
