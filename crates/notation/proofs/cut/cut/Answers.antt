use Rattle.std.proofs.Common.{rules, sym, ◌∙◌, ◌==◌}
use Rattle.std.proofs.lemmas.Iterator.{YieldsList-from_slice}
use Rattle.std.proofs.lemmas.Iterator.Search.{position_from_yields_List}
use Rattle.notation.proofs.CutPlaces.{cut_found, cut_missing}
use Rattle.notation.proofs.cut.cut.Goals as goal

pub returns-in_err-at : goal.returns-in_err-at
returns-in_err-at c =
    let p = position_from_yields_List (λ b. b == c.args.mark) _ _ _ c.position.ensures.ran (YieldsList-from_slice c.args.word.now cc) (λ x b q k. search rules) in
    rw c.from_residual.ensures (cut_missing c.args.mark c.args.word.now (sym c.in_err-at.was ∙ p))

pub returns : goal.returns
returns c =
    let p = position_from_yields_List (λ b. b == c.args.mark) _ _ _ c.position.ensures.ran (YieldsList-from_slice c.args.word.now cc) (λ x b q k. search rules) in
    cut_found c.args.mark c.in_ok-at.at c.args.word.now (sym c.in_ok-at.was ∙ p)
