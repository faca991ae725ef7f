-- How tuning and deciding move the bounds of a job.
use Rattle.std.proofs.Common.{◌≡◌, ℕ, Bool, true, false, cond, List, [], ◌∷◌, Some, None, Option, sym, ap, ◌∙◌, subst, ⊎_elim}
use Rattle.std.proofs.lemmas.Bool.{false≢true}
use Rattle.kinds.specs.Stamps.{Order, Ordered}
use Rattle.kinds.specs.Bounds.{later}
use Rattle.model.specs.declared.entry.Entry.{Entry}
use Rattle.station.specs.Station.{narrowed, lifted, upper_by, lower_by}
use Rattle.law.proofs.StampOrder.{some_none, some_inj, Le, le_refl, le_trans, later_left, later_right, Under, narrowed_old, narrowed_new}
use Rattle.law.proofs.Members.{In, in_none, in_cons}

module _ {S R : Type 0} (o : Order S) (laws : Ordered o) where
  -- the upper bound is not after what it was, nor after the first write of an open entry's row
  pub upper_old : (first : ℕ → Option S) (es : List (Entry S R)) (u : Option S) (g : S) → Under o laws u g → Under o laws (upper_by o first es u) g
  upper_old first [] u g h = h
  upper_old first (e ∷ es) u g h = upper_old first es (cond e.opened (narrowed o u (first e.number)) u) g (by e.opened)
    where
      by : (t : Bool) → Under o laws (cond t (narrowed o u (first e.number)) u) g
      by true = narrowed_old o laws u (first e.number) g h
      by false = h

  pub upper_new : (first : ℕ → Option S) (es : List (Entry S R)) (u : Option S) (e : Entry S R) (g : S) → In e es → e.opened ≡ true → first e.number ≡ Some g → Under o laws (upper_by o first es u) g
  upper_new first [] u e g m p q = in_none m
  upper_new first (f ∷ fs) u e g m p q =
      ⊎_elim (λ h. upper_old first fs _ g (by f.opened (ap (λ (z : Entry S R). z.opened) (sym h) ∙ p) (ap (λ (z : Entry S R). first z.number) (sym h) ∙ q)))
      (λ n. upper_new first fs _ e g n p q) (in_cons m)
    where
      by : (t : Bool) → t ≡ true → first f.number ≡ Some g → Under o laws (cond t (narrowed o u (first f.number)) u) g
      by true p q = narrowed_new o laws u (first f.number) g q
      by false p q = absurd (false≢true p)

module _ {S : Type 0} (o : Order S) (laws : Ordered o) where
  lifted_over : (lower : S) (s : Option S) → Le o lower (lifted o lower s)
  lifted_over lower None = le_refl o laws lower
  lifted_over lower (Some s) = later_left o laws lower s

  lifted_new : (lower : S) (s : Option S) (b : S) → s ≡ Some b → Le o b (lifted o lower s)
  lifted_new lower None b e = absurd (some_none (sym e))
  lifted_new lower (Some s) b e = subst (λ (z : S). Le o z (later o lower s)) (some_inj e) (later_right o laws lower s)

module _ {S R : Type 0} (o : Order S) (laws : Ordered o) where
  -- the lower bound is not before what it was, nor before the stamp of a put entry's row
  pub lower_over : (stamp : ℕ → Option S) (es : List (Entry S R)) (lower : S) → Le o lower (lower_by o stamp es lower)
  lower_over stamp [] lower = le_refl o laws lower
  lower_over stamp (e ∷ es) lower = le_trans o laws _ _ _ (by e.put) (lower_over stamp es (cond e.put (lifted o lower (stamp e.number)) lower))
    where
      by : (t : Bool) → Le o lower (cond t (lifted o lower (stamp e.number)) lower)
      by true = lifted_over o laws lower (stamp e.number)
      by false = le_refl o laws lower

  pub lower_put : (stamp : ℕ → Option S) (es : List (Entry S R)) (lower : S) (e : Entry S R) (b : S) → In e es → e.put ≡ true → stamp e.number ≡ Some b → Le o b (lower_by o stamp es lower)
  lower_put stamp [] lower e b m p q = in_none m
  lower_put stamp (f ∷ fs) lower e b m p q =
      ⊎_elim (λ h. le_trans o laws _ _ _ (by f.put (ap (λ (z : Entry S R). z.put) (sym h) ∙ p) (ap (λ (z : Entry S R). stamp z.number) (sym h) ∙ q)) (lower_over stamp fs (cond f.put (lifted o lower (stamp f.number)) lower)))
      (λ n. lower_put stamp fs _ e b n p q) (in_cons m)
    where
      by : (t : Bool) → t ≡ true → stamp f.number ≡ Some b → Le o b (cond t (lifted o lower (stamp f.number)) lower)
      by true p q = lifted_new o laws lower (stamp f.number) b q
      by false p q = absurd (false≢true p)
