use Rattle.std.proofs.Common.{◌∙◌, refl, rules, tests}
use Rattle.std.specs.List.{slice_get}
use Rattle.std.proofs.lemmas.Iterator.{YieldsList-from_slice}
use Rattle.std.proofs.lemmas.Iterator.Consumers.{YieldsList-from_filter}
use Rattle.std.proofs.lemmas.Iterator.Search.{any_from_yields_List}
use Rattle.station.proofs.Chains.{any-filter}
use Rattle.registrar.specs.Deciding.{noted_elsewhere, overtaken}
use Rattle.registrar.proofs.verdicts.overtaken.Goals as goal

pub returns : goal.returns
returns g c =
    let o = g.S.Stamp.kind.order in
    let rows = c.args.rows.now in
    any_from_yields_List (λ e. noted_elsewhere o e.noted (slice_get rows e.number)) _ _ _ c.any.ensures.ran
    (YieldsList-from_filter _ (λ e. e.put) (YieldsList-from_slice c.args.entries.now cc) c.filter.ensures.closure (λ x b q k. search (rules, tests)))
    (λ x b q k. search (rules, tests))
    ∙ any-filter (λ e. e.put) (λ e. noted_elsewhere o e.noted (slice_get rows e.number)) (overtaken o rows) refl (λ _ _. refl) c.args.entries.now
