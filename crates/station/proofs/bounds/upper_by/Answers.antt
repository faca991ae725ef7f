use Rattle.std.proofs.Common.{Some, ◌∙◌, refl, rules, tests}
use Rattle.std.proofs.lemmas.Iterator.{YieldsList-from_slice}
use Rattle.std.proofs.lemmas.Iterator.Consumers.{YieldsList-at, YieldsList-from_filter, YieldsList-from_filter_map, fold_from_yields_List}
use Rattle.kinds.specs.Bounds.{earlier}
use Rattle.station.specs.Station.{upper_by, narrowed}
use Rattle.station.specs.Heard.{firsts}
use Rattle.station.proofs.Chains.{bounds-fold}
use Rattle.station.proofs.bounds.upper_by.Goals as goal

pub returns : goal.returns
returns g c =
    let o = g.S.Stamp.kind.order in
    let of = firsts c.args.rows.now in
    fold_from_yields_List _ (λ u s. Some (earlier o u s)) c.args.upper c.fold.result c.fold.ensures.ran
    (YieldsList-from_filter_map _ (λ e. of e.number)
    (YieldsList-at c.filter_map.ensures.source
    (YieldsList-from_filter _ (λ e. e.opened) (YieldsList-from_slice c.args.entries.now cc) c.filter.ensures.closure (λ x b q k. search (rules, tests))))
    c.filter_map.ensures.closure (λ x r q k. search (rules, tests)))
    (λ a x b q k. search (rules, tests))
    ∙ bounds-fold (λ e. e.opened) (λ e. of e.number) (λ u s. Some (earlier o u s)) (narrowed o) (λ _. refl) (λ _ _. refl) (upper_by o of) (λ _. refl) (λ _ _ _. refl) c.args.entries.now c.args.upper
