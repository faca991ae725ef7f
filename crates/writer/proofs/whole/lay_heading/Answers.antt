use Rattle.std.proofs.Common.{◌≡◌, [], ◌∷◌, ap, ◌∙◌, arith}
use Rattle.kinds.specs.Bytes.{be2, be4}
use Rattle.writer.proofs.Pens.{lays_as, lays_four}
use Rattle.writer.proofs.whole.lay_heading.Goals as goal

pub returns : goal.returns
returns g c =
    let kinds : c.number.result ∷ c.number-2.result ∷ [] ≡ g.S.Stamp.kind.order.number ∷ g.R.Record.kind.number ∷ [] =
    ap (λ n. n ∷ c.number-2.result ∷ []) c.number.ensures ∙ ap (λ n. g.S.Stamp.kind.order.number ∷ n ∷ []) c.number-2.ensures in
    lays_four c.args.pen.now c.lay.new.self c.lay-2.new.self c.lay-3.new.self c.lay-4.new.self (65 ∷ 83 ∷ 74 ∷ 49 ∷ []) (g.S.Stamp.kind.order.number ∷ g.R.Record.kind.number ∷ []) (be2 c.args.records) (be4 c.args.jobs) (omega arith)
    c.lay.ensures
    (lays_as c.lay.new.self c.lay-2.new.self _ _ kinds c.lay-2.ensures)
    (lays_as c.lay-2.new.self c.lay-3.new.self _ _ c.two.ensures c.lay-3.ensures)
    (lays_as c.lay-3.new.self c.lay-4.new.self _ _ c.four.ensures c.lay-4.ensures)
