use Rattle.std.proofs.Common.{is_some, ◌∙◌, refl, rules, tests}
use Rattle.std.proofs.lemmas.Iterator.{YieldsList-from_slice}
use Rattle.std.proofs.lemmas.Iterator.Consumers.{YieldsList-from_filter}
use Rattle.std.proofs.lemmas.Iterator.Search.{any_from_yields_List}
use Rattle.station.specs.Station.{struck}
use Rattle.station.specs.Heard.{firsts}
use Rattle.station.proofs.Chains.{any-filter}
use Rattle.station.proofs.sheet.struck.Goals as goal

pub returns : goal.returns
returns g c =
    let first = firsts c.args.rows.now in
    any_from_yields_List (λ e. is_some (first e.number)) _ _ _ c.any.ensures.ran
    (YieldsList-from_filter _ (λ e. e.put) (YieldsList-from_slice c.args.entries.now cc) c.filter.ensures.closure (λ x b q k. search (rules, tests)))
    (λ x b q k. search (rules, tests))
    ∙ any-filter (λ e. e.put) (λ e. is_some (first e.number)) (struck first) refl (λ _ _. refl) c.args.entries.now
