-- What a stamp kind is, and the laws that it shows.
use Rattle.std.specs.Prelude.{◌≡◌, ℕ, Bool, true, cond, ◌⊎◌, Some, None, Option}
use Rattle.std.specs.declared.cmp.Ordering.TheVariants.{Less, Equal, Greater}
use Rattle.std.specs.declared.cmp.Ordering.{Ordering}
use Rattle.std.specs.Option.{option_map}
use Rattle.kinds.specs.Forms.{Form, Formed, Alike}

-- the order of a kind: its number, which stamp is before which, the least one, and the written form
pub record Order (S : Type 0) : Type 0 where
  pub number : ℕ
  pub before : S → S → Bool
  pub least : S
  pub form : Form S

-- a kind: its order, and the choice of a stamp between two bounds
pub record Kind (S : Type 0) : Type 0 where
  pub order : Order S
  pub pick : S → Option S → Option S

abbrev pub Before : {S : Type 0} → Order S → S → S → Type 0
Before o a b = o.before a b ≡ true

abbrev pub Same : {S : Type 0} → Order S → S → S → Type 0
Same o a b = Alike o.form a b

-- the three-way comparison
abbrev pub compared : {S : Type 0} → Order S → S → S → Ordering
compared o a b = cond (o.before a b) Less (cond (o.before b a) Greater Equal)

-- exactly one of three holds
abbrev pub OneOf : Type 0 → Type 0 → Type 0 → Type 0
OneOf P Q R = (P × (Q → ⊥) × (R → ⊥)) ⊎ (((P → ⊥) × Q × (R → ⊥)) ⊎ ((P → ⊥) × (Q → ⊥) × R))

-- a stamp is before a bound that may be absent
abbrev pub Under : {S : Type 0} → Order S → S → Option S → Type 0
Under o s None = Unit {0}
Under o s (Some upper) = Before o s upper

-- a stamp after the lower bound and before the upper one
abbrev pub Between : {S : Type 0} → Order S → S → Option S → S → Type 0
Between o lower upper s = Before o lower s × Under o s upper

-- bounds that are both absent, or both there and the same
abbrev pub SameBound : {S : Type 0} → Order S → Option S → Option S → Type 0
SameBound o a b = option_map o.form.written a ≡ option_map o.form.written b

-- The laws of the order, the least stamp and the written form.
pub record Ordered {S : Type 0} (o : Order S) : Type 0 where
  pub trichotomy : (a b : S) → OneOf (Before o a b) (Same o a b) (Before o b a)
  pub transitive : (a b c : S) → Before o a b → Before o b c → Before o a c
  pub least_first : (a : S) → Before o a o.least → ⊥
  pub formed : Formed 8 o.form

-- The law of the choice: strictly inside, none exactly where no stamp lies inside, and alike for bounds that are the same.
pub record Picks {S : Type 0} (k : Kind S) : Type 0 where
  pub inside : (lower : S) (upper : Option S) (s : S) → k.pick lower upper ≡ Some s → Between k.order lower upper s
  pub none : (lower : S) (upper : Option S) → k.pick lower upper ≡ None → (s : S) → Between k.order lower upper s → ⊥
  pub alike : (a b : S) (u v : Option S) → Same k.order a b → SameBound k.order u v → SameBound k.order (k.pick a u) (k.pick b v)

pub record Lawful {S : Type 0} (k : Kind S) : Type 0 where
  pub ordered : Ordered k.order
  pub picks : Picks k
