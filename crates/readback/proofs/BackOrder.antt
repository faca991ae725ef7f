-- Stamps that count alike are before and after the same stamps.
use Rattle.std.proofs.Common.{sym, ◌∙◌, ⊎_elim}
use Rattle.kinds.specs.Stamps.{Order, Ordered, Before, Same}
use Rattle.kinds.specs.Bounds.{NotAfter}
use Rattle.kinds.proofs.Orders.{fails, same_not_before}
use Rattle.std.proofs.lemmas.Bool.{both_ways}
use Rattle.law.proofs.StampOrder.{carry}

module _ {S : Type 0} (o : Order S) (laws : Ordered o) where
  -- a stamp before one is before the same one
  same_after : (a b c : S) → Same o b c → Before o a b → Before o a c
  same_after a b c e h =
      ⊎_elim (λ t. t.0)
      (⊎_elim (λ t. absurd (same_not_before o laws a b (t.1 ∙ sym e) h)) (λ t. absurd (same_not_before o laws c b (sym e) (laws.transitive c a b t.2 h))))
      (laws.trichotomy a c)

  -- the same, of stamps that do not fall
  pub same_not_after : (a b c d : S) → Same o a c → Same o b d → NotAfter o a b → NotAfter o c d
  same_not_after a b c d e u h = fails (o.before d c) (λ k. both_ways (o.before b a) h (same_after b c a (sym e) (carry o laws d c b k (sym u))))

  pub same_risen : (a b : S) → Same o a b → Before o o.least b → Before o o.least a
  same_risen a b e h = same_after o.least b a (sym e) h
