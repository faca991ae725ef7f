use Rattle.std.proofs.Common.{eqb, sym, ◌∙◌, rules, tests}
use Rattle.std.proofs.lemmas.Iterator.{YieldsList-from_slice}
use Rattle.std.proofs.lemmas.Iterator.Adapters.{option_map_id}
use Rattle.std.proofs.lemmas.Iterator.Consumers.{YieldsList-at, YieldsList-from_copied, YieldsList-from_enumerate}
use Rattle.std.proofs.lemmas.Iterator.Search.{find_from_yields_List}
use Rattle.station.proofs.Chains.{found_at-find}
use Rattle.station.proofs.sheet.find.Goals as goal

pub returns : goal.returns
returns g c =
    sym (option_map_id c.find.result)
    ∙ find_from_yields_List (λ p. eqb c.args.number p.1.number) _ _ c.find.result c.find.ensures.ran
    (YieldsList-from_enumerate (YieldsList-at c.enumerate.ensures.source (YieldsList-from_copied (YieldsList-from_slice c.args.entries.now cc))) c.enumerate.ensures.count)
    (λ x b q k. search (rules, tests))
    ∙ found_at-find c.args.number c.args.entries.now
