-- What the laws of the order give for any stamp kind.
use Rattle.std.proofs.Common.{◌≡◌, Bool, true, false, refl, ⊎_elim}
use Rattle.kinds.specs.Stamps.{Order, Ordered, Before, Same}
use Rattle.kinds.specs.Bounds.{NotAfter}

-- a test that cannot succeed fails
pub fails : (t : Bool) → (t ≡ true → ⊥) → t ≡ false
fails true h = absurd (h refl)
fails false h = refl

module _ {S : Type 0} (o : Order S) (laws : Ordered o) where
  -- a stamp is not before one that is the same
  pub same_not_before : (a b : S) → Same o a b → Before o a b → ⊥
  same_not_before a b e h = ⊎_elim (λ x. x.1 e) (⊎_elim (λ x. x.0 h) (λ x. x.1 e)) (laws.trichotomy a b)

  -- a stamp is not after itself
  pub le_refl : (a : S) → NotAfter o a a
  le_refl a = fails (o.before a a) (same_not_before a a refl)

  -- a stamp before another is not after it
  pub lt_le : (a b : S) → Before o a b → NotAfter o a b
  lt_le a b h = fails (o.before b a) (λ k. ⊎_elim (λ x. x.2 k) (⊎_elim (λ x. x.0 h) (λ x. x.0 h)) (laws.trichotomy a b))
