-- The verdict on a ticket, as a search among the outcomes tells it.
use Rattle.std.proofs.Common.{◌≡◌, ℕ, Bool, true, false, cond, eqb, List, [], ◌∷◌, Some, None, Option, refl, ap}
use Rattle.std.specs.List.{find}
use Rattle.std.specs.Option.{option_map, MatchOption, IsSomeAnd}
use Rattle.model.specs.declared.verdict.Outcome.{Outcome}
use Rattle.registrar.specs.Registry.{verdict_in}

-- what `map` made of a value that v reads
pub mapped : {A B C : Type 0} (v : A → B) (h : B → C) (o : Option A) (r : Option C) (P : A → C → Type 0) → MatchOption o (r ≡ None) (λ x. IsSomeAnd r (P x)) → ((x : A) (y : C) → P x y → y ≡ h (v x)) → r ≡ option_map h (option_map v o)
mapped v h None r P m made = m
mapped v h (Some x) None P m made = absurd m
mapped v h (Some x) (Some y) P m made = ap (λ z. Some z) (made x y m)

module _ {S : Type 0} (ticket : ℕ) where
  pub verdict_in-find : (cs : List (Outcome S)) → option_map (λ c. c.verdict) (find (λ c. eqb ticket c.ticket) cs) ≡ verdict_in ticket cs
  verdict_in-find [] = refl
  verdict_in-find (c ∷ cs) = by_ticket (eqb ticket c.ticket) (verdict_in-find cs)
    where
      by_ticket : (b : Bool) → option_map (λ c. c.verdict) (find (λ c. eqb ticket c.ticket) cs) ≡ verdict_in ticket cs → option_map (λ c. c.verdict) (cond b (Some c) (find (λ c. eqb ticket c.ticket) cs)) ≡ cond b (Some c.verdict) (verdict_in ticket cs)
      by_ticket true h = refl
      by_ticket false h = h
