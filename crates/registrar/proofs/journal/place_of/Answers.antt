use Rattle.std.proofs.Common.{◌≤◌, length, subst, sym, arith, rules, tests}
use Rattle.std.proofs.lemmas.Iterator.{YieldsList-from_slice}
use Rattle.std.proofs.lemmas.Iterator.Consumers.{fold_from_yields_List}
use Rattle.registrar.specs.Registry.{steps, stepped}
use Rattle.registrar.proofs.Heads.{stepped_within}
use Rattle.registrar.proofs.journal.place_of.Goals as goal

pub returns-clause-place : goal.returns-clause-place
returns-clause-place g c =
    fold_from_yields_List _ (stepped g.S.Stamp.kind.order c.args.stamp c.args.heads.now) 0 c.fold.result c.fold.ensures.ran
    (YieldsList-from_slice steps c.iter.ensures.rest)
    (λ a x b q k. search (rules, tests))

pub returns-clause-within : goal.returns-clause-within
returns-clause-within g c =
    subst (λ n. n ≤ length c.args.heads.now) (sym (returns-clause-place g c))
    (stepped_within g.S.Stamp.kind.order c.args.stamp c.args.heads.now steps 0 (omega arith))
