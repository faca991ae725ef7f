-- Why a founding is refused.
use Rattle.std.proofs.Common.{◌≡◌, Bool, true, false, not, List, length, Ok, Err, None, ap}
use Rattle.kinds.specs.Stamps.{Order}
use Rattle.model.specs.Refusals.{refused_if}
use Rattle.model.specs.declared.refusal.Refusal.{Refusal}
use Rattle.model.specs.declared.refusal.Refusal.TheVariants.{WrongTables}
use Rattle.registrar.specs.Calls.{founded_as}
use Rattle.registrar.specs.Registry.{Registry, Settled, tables_sized, founded, found, unless}

by_tables : {S R : Type 0} (b : Bool) (r : Refusal) (g h fresh : Registry S R) → founded_as (Err r) h ≡ unless (refused_if (not b) WrongTables None) g (record { answer = Ok tt; registry = fresh }) → r ≡ WrongTables
by_tables {S} {R} true r g h fresh k = let e = ap (λ (s : Settled S R (Unit {0})). s.answer) k in cc
by_tables {S} {R} false r g h fresh k = let e = ap (λ (s : Settled S R (Unit {0})). s.answer) k in cc

-- a refused founding is refused by its tables
pub no_founding : {S R : Type 0} (o : Order S) (values : List R) (g h : Registry S R) (r : Refusal) → founded_as (Err r) h ≡ found o values g → r ≡ WrongTables
no_founding o values g h r e = by_tables (tables_sized (length values) g) r g h (founded o values g) e
