use Rattle.std.proofs.Common.{◌∙◌, refl, rules, tests}
use Rattle.std.specs.List.{slice_get}
use Rattle.std.proofs.lemmas.Iterator.{YieldsList-from_slice}
use Rattle.std.proofs.lemmas.Iterator.Consumers.{YieldsList-at, YieldsList-from_filter, YieldsList-from_filter_map, fold_from_yields_List}
use Rattle.kinds.specs.Bounds.{later}
use Rattle.station.specs.Station.{lower_by, lifted, read_in}
use Rattle.station.specs.Heard.{reads}
use Rattle.station.proofs.Chains.{bounds-fold}
use Rattle.station.proofs.bounds.lower_by.Goals as goal

pub returns : goal.returns
returns g c =
    let o = g.S.Stamp.kind.order in
    let rows = c.args.rows.now in
    fold_from_yields_List _ (λ l row. later o l row.read) c.args.lower c.fold.result c.fold.ensures.ran
    (YieldsList-from_filter_map _ (λ e. slice_get rows e.number)
    (YieldsList-at c.filter_map.ensures.source
    (YieldsList-from_filter _ (λ e. e.put) (YieldsList-from_slice c.args.entries.now cc) c.filter.ensures.closure (λ x b q k. search (rules, tests))))
    c.filter_map.ensures.closure (λ x r q k. search (rules, tests)))
    (λ a x b q k. search (rules, tests))
    ∙ bounds-fold (λ e. e.put) (λ e. slice_get rows e.number) (λ l row. later o l row.read) (λ l r. lifted o l (read_in r)) (λ _. refl) (λ _ _. refl) (lower_by o (reads rows)) (λ _. refl) (λ _ _ _. refl) c.args.entries.now c.args.lower
