-- What the laws of a stamp kind give of its order and of bounds.
use Rattle.std.proofs.Common.{◌≡◌, ℕ, Bool, true, false, cond, not, ◌⊎◌, Some, None, Option, sym, refl, ◌∙◌, subst, inl, inr, ⊎_elim, arith}
use Rattle.std.proofs.lemmas.Bool.{both_ways, cases_Bool, and_parts, not-true}
use Rattle.kinds.specs.Stamps.{Order, Ordered, Kind, Lawful, Before, Same}
use Rattle.kinds.specs.Bounds.{same, later, earlier, NotAfter}
use Rattle.kinds.proofs.Orders.{fails, same_not_before}
use Rattle.kinds.proofs.Orders as orders
use Rattle.station.specs.Station.{narrowed}

pub some_none : {A : Type 0} {a : A} → Some a ≡ None → ⊥
some_none e = let z : ◌≡◌ {A = ℕ} 0 1 = cc in omega arith

pub some_inj : {A : Type 0} {a b : A} → Some a ≡ Some b → a ≡ b
some_inj e = cc

abbrev pub Lt : {S : Type 0} → Order S → S → S → Type 0
Lt o a b = Before o a b

-- a is not after b
abbrev pub Le : {S : Type 0} → Order S → S → S → Type 0
Le o a b = NotAfter o a b

module _ {S : Type 0} (o : Order S) (laws : Ordered o) where
  pub not_both : (a b : S) → Lt o a b → Le o b a → ⊥
  not_both a b p q = both_ways (o.before a b) q p

  pub lt_le : (a b : S) → Lt o a b → Le o a b
  lt_le a b p = orders.lt_le o laws a b p

  pub le_refl : (a : S) → Le o a a
  le_refl a = orders.le_refl o laws a

  pub le_or_lt : (a b : S) → Le o a b ⊎ Lt o b a
  le_or_lt a b = ⊎_elim inr inl (cases_Bool (o.before b a))

  -- two stamps that are the same have the same stamps after them
  pub carry : (a b c : S) → Lt o a b → Same o a c → Lt o c b
  carry a b c p e =
      ⊎_elim (λ h. h.0)
      (⊎_elim (λ h. absurd (same_not_before o laws a b (e ∙ h.1) p)) (λ h. absurd (same_not_before o laws a c e (laws.transitive a b c p h.2))))
      (laws.trichotomy c b)

  pub split_at : (a b c : S) → Lt o a b → Lt o a c ⊎ Lt o c b
  split_at a b c p =
      ⊎_elim (λ h. inl h.0) (⊎_elim (λ h. inr (carry a b c p h.1)) (λ h. inr (laws.transitive c a b h.2 p))) (laws.trichotomy a c)

  pub le_trans : (a b c : S) → Le o a b → Le o b c → Le o a c
  le_trans a b c p q = ⊎_elim (λ h. h) (λ h. absurd (⊎_elim (λ k. not_both c b k q) (λ k. not_both b a k p) (split_at c a b h))) (le_or_lt a c)

  pub lt_le_trans : (a b c : S) → Lt o a b → Le o b c → Lt o a c
  lt_le_trans a b c p q = ⊎_elim (λ h. h) (λ h. absurd (not_both c b h q)) (split_at a b c p)

  pub le_lt_trans : (a b c : S) → Le o a b → Lt o b c → Lt o a c
  le_lt_trans a b c p q = ⊎_elim (λ h. absurd (not_both b a h p)) (λ h. h) (split_at b c a q)

  pub least_le : (a : S) → Le o o.least a
  least_le a = fails (o.before a o.least) (laws.least_first a)

  pub same_le : (a b : S) → same o a b ≡ true → Le o a b × Le o b a
  same_le a b e =
      let h = and_parts (not (o.before a b)) (not (o.before b a)) e in
      (not-true (o.before b a) h.1, not-true (o.before a b) h.0)

  pub later_left : (a b : S) → Le o a (later o a b)
  later_left a b = by (o.before a b) refl
    where
      by : (t : Bool) → o.before a b ≡ t → Le o a (cond t b a)
      by true e = lt_le a b e
      by false e = le_refl a

  pub later_right : (a b : S) → Le o b (later o a b)
  later_right a b = by (o.before a b) refl
    where
      by : (t : Bool) → o.before a b ≡ t → Le o b (cond t b a)
      by true e = le_refl b
      by false e = e

  -- the bound u is there, and not after f
  pub record Under (u : Option S) (f : S) : Type 0 where
    pub bound : S
    pub is : u ≡ Some bound
    pub low : Le o bound f

  earlier_right : (u f : S) → Le o (cond (o.before f u) f u) f
  earlier_right u f = by (o.before f u) refl
    where
      by : (t : Bool) → o.before f u ≡ t → Le o (cond t f u) f
      by true e = le_refl f
      by false e = e

  earlier_left : (u f : S) → Le o (cond (o.before f u) f u) u
  earlier_left u f = by (o.before f u) refl
    where
      by : (t : Bool) → o.before f u ≡ t → Le o (cond t f u) u
      by true e = lt_le f u e
      by false e = le_refl u

  narrow_new : (u : Option S) (f : S) → Under (Some (earlier o u f)) f
  narrow_new None f = record { bound = f; is = refl; low = le_refl f }
  narrow_new (Some u) f = record { bound = cond (o.before f u) f u; is = refl; low = earlier_right u f }

  narrow_old : (u : Option S) (f g : S) → Under u g → Under (Some (earlier o u f)) g
  narrow_old None f g h = absurd (some_none (sym h.is))
  narrow_old (Some u) f g h =
      record {
        bound = cond (o.before f u) f u;
        is = refl;
        low = le_trans _ u g (earlier_left u f) (subst (λ (z : S). Le o z g) (some_inj (sym h.is)) h.low);
      }

  -- a narrowed bound is not after what it was, nor after what narrowed it
  pub narrowed_old : (u f : Option S) (g : S) → Under u g → Under (narrowed o u f) g
  narrowed_old u None g h = h
  narrowed_old u (Some f) g h = narrow_old u f g h

  pub narrowed_new : (u f : Option S) (g : S) → f ≡ Some g → Under (narrowed o u f) g
  narrowed_new u None g e = absurd (some_none (sym e))
  narrowed_new u (Some f) g e = subst (λ (z : S). Under (Some (earlier o u f)) z) (some_inj e) (narrow_new u f)

module _ {S : Type 0} (k : Kind S) (laws : Lawful k) where
  pub pick_after : (lower : S) (upper : Option S) (s : S) → k.pick lower upper ≡ Some s → Lt k.order lower s
  pick_after lower upper s p = (laws.picks.inside lower upper s p).0

  pub pick_under : (lower : S) (u : Option S) (s f : S) → k.pick lower u ≡ Some s → Under k.order laws.ordered u f → Lt k.order s f
  pick_under lower u s f p h =
      lt_le_trans k.order laws.ordered s h.bound f
      (laws.picks.inside lower (Some h.bound) s (subst (λ (z : Option S). k.pick lower z ≡ Some s) h.is p)).1 h.low
