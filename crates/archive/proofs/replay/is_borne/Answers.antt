use Rattle.std.proofs.Common.{◌≡◌, ◌+◌, ◌-◌, ◌*◌, ◌&&◌, length, take, drop, sym, ap, ◌∙◌, arith}
use Rattle.std.proofs.lemmas.Bool.{le-leb}
use Rattle.kinds.specs.Bytes.{part}
use Rattle.archive.specs.Play.{alike}
use Rattle.archive.proofs.replay.is_borne.Goals as goal

pub returns-then-x-table : goal.returns-then-x-table
returns-then-x-table c =
    let a : 20 * c.args.x + 20 - 20 * c.args.x ≡ 20 = omega arith in
    let b : c.args.here + 22 - (c.args.here + 2) ≡ 20 = omega arith in
    c.eq.ensures
    ∙ ap (λ m. alike (take m (drop (20 * c.args.x) c.args.table.now)) (take (c.args.here + 22 - (c.args.here + 2)) (drop (c.args.here + 2) c.args.bytes.now))) a
    ∙ ap (λ m. alike (part c.args.table.now (20 * c.args.x) 20) (take m (drop (c.args.here + 2) c.args.bytes.now))) b
    ∙ sym (ap (λ t. t && alike (part c.args.table.now (20 * c.args.x) 20) (part c.args.bytes.now (c.args.here + 2) 20)) (le-leb (20 * c.args.x + 20) (length c.args.table.now) (omega arith)))
