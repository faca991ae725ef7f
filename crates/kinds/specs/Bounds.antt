-- Bounds, for any stamp kind.
use Rattle.std.specs.Prelude.{◌≡◌, Bool, false, cond, not, ◌&&◌, Some, None, Option}
use Rattle.kinds.specs.Stamps.{Order}

-- the later of two stamps; of two that are the same, the first
abbrev pub later : {S : Type 0} → Order S → S → S → S
later o a b = cond (o.before a b) b a

-- the earlier of a bound that may be absent and a stamp; of two that are the same, the bound
abbrev pub earlier : {S : Type 0} → Order S → Option S → S → S
earlier o None s = s
earlier o (Some upper) s = cond (o.before s upper) s upper

-- whether two stamps are the same, as the comparison tells it
abbrev pub same : {S : Type 0} → Order S → S → S → Bool
same o a b = not (o.before a b) && not (o.before b a)

-- a is not after b
abbrev pub NotAfter : {S : Type 0} → Order S → S → S → Type 0
NotAfter o a b = o.before b a ≡ false

-- a is not after a bound that may be absent
abbrev pub NotOver : {S : Type 0} → Order S → S → Option S → Type 0
NotOver o s None = Unit {0}
NotOver o s (Some upper) = NotAfter o s upper

-- what every lawful kind owes to the later of two: it is not before either
pub record LaterLaw {S : Type 0} (o : Order S) (a b r : S) : Type 0 where
  pub first : NotAfter o a r
  pub second : NotAfter o b r

-- and to the earlier of a bound and a stamp: it is not after either
pub record EarlierLaw {S : Type 0} (o : Order S) (upper : Option S) (s r : S) : Type 0 where
  pub bound : NotOver o r upper
  pub stamp : NotAfter o r s
