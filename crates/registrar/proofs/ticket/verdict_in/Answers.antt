use Rattle.std.proofs.Common.{eqb, ap, ◌∙◌, rules, tests}
use Rattle.std.specs.Option.{option_map}
use Rattle.std.proofs.lemmas.Iterator.{YieldsList-from_slice}
use Rattle.std.proofs.lemmas.Iterator.Search.{find_from_yields_List}
use Rattle.registrar.proofs.Outcomes.{mapped, verdict_in-find}
use Rattle.registrar.proofs.ticket.verdict_in.Goals as goal

pub returns : goal.returns
returns g c =
    mapped (λ x. x.now) (λ o. o.verdict) c.find.result c.map.result _ c.map.ensures.cases (λ x y p. search rules)
    ∙ ap (option_map (λ o. o.verdict)) (find_from_yields_List (λ o. eqb c.args.ticket o.ticket) _ _ c.find.result c.find.ensures.ran (YieldsList-from_slice c.args.outcomes.now cc) (λ x b q k. search (rules, tests)))
    ∙ verdict_in-find c.args.ticket c.args.outcomes.now
