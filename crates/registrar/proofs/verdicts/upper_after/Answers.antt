use Rattle.std.proofs.Common.{◌≡◌, ℕ, suc, ◌+◌, ◌<◌, List, ◌∷◌, length, drop, Some, None, Ok, Err, Option, Result, ok_or, refl, sym, ap, ◌∙◌, arith}
use Rattle.std.proofs.Math.ListN.{get_or}
use Rattle.std.proofs.Math.Seq.{drop-cons}
use Rattle.std.proofs.lemmas.Result.{err_from_is_err_and}
use Rattle.std.specs.List.{slice_get}
use Rattle.kinds.specs.Stamps.{Order}
use Rattle.model.specs.declared.entry.Entry.{Entry}
use Rattle.model.specs.declared.row.Row.{Row}
use Rattle.registrar.specs.Deciding.{bounded_by, following, and_then, upper_bound}
use Rattle.registrar.proofs.verdicts.upper_after.Goals as goal

some_of : {A E : Type 0} (o : Option A) (e : E) (x : A) → ◌≡◌ {A = Result A E} (Ok x) (ok_or o e) → o ≡ Some x
some_of (Some y) e x h = cc
some_of None e x h = cc

none_of : {A E : Type 0} (o : Option A) (e d : E) → ◌≡◌ {A = Result A E} (Err d) (ok_or o e) → o ≡ None
none_of (Some y) e d h = cc
none_of None e d h = refl

-- the bound from a place on, by the entry at that place
module _ {S R : Type 0} (o : Order S) (rows : List (Row S R)) (es : List (Entry S R)) (i : ℕ) (e : Entry S R) (l : i < length es) (is : e ≡ get_or es i e) (upper : Option S) where
  bound_at : {b : Option (Option S)} → bounded_by o e.opened (following o e.noted (slice_get rows e.number)) upper ≡ b → upper_bound o rows (drop i es) upper ≡ and_then (upper_bound o rows (drop (suc i) es)) b
  bound_at q = ap (λ r. upper_bound o rows r upper) (drop-cons es i e l ∙ ap (λ x. x ∷ drop (suc i) es) (sym is)) ∙ ap (and_then (upper_bound o rows (drop (suc i) es))) q

pub returns-in_err-bound : goal.returns-in_err-bound
returns-in_err-bound g c =
    let p = err_from_is_err_and c.from_residual.result c.from_residual.ensures.1 in
    p.1 ∙ sym (ap (λ b. ok_or b (record {})) (c.loop-entry.invariant ∙ bound_at g.S.Stamp.kind.order c.args.rows.now c.args.entries.now c.loop-entry.entry-index c.entry-item.result c.loop-entry-test.true c.entry-item.is c.loop-entry.bound (none_of _ _ _ c.in_err-bound.ensures)))

pub loop-entry-preserved : goal.loop-entry-preserved
loop-entry-preserved g c =
    let next : c.loop-entry.entry-index + 1 ≡ suc c.loop-entry.entry-index = omega arith in
    c.loop-entry.invariant ∙ bound_at g.S.Stamp.kind.order c.args.rows.now c.args.entries.now c.loop-entry.entry-index c.entry-item.result c.loop-entry-test.true c.entry-item.is c.loop-entry.bound (some_of _ _ _ c.in_ok-bound.ensures)
    ∙ ap (λ n. upper_bound g.S.Stamp.kind.order c.args.rows.now (drop n c.args.entries.now) c.in_ok-bound.bound) (sym next)
