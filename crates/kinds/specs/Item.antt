-- Items: withdrawn, a solid, or a sub-assembly.
use Rattle.std.specs.Prelude.{ℕ, ◌%◌, max, cond, ◌&&◌, List, [], ◌∷◌, ◌++◌, drop, Some, None, Option, ◌==◌, slice_index}
use Rattle.kinds.specs.Bytes.{be2, be4, number2, number4, part}
use Rattle.kinds.specs.Values.{RecordKind}
use Rattle.kinds.specs.Card.{zero3}
use Rattle.kinds.specs.declared.item.Item.{Item}
use Rattle.kinds.specs.declared.item.Item.TheVariants.{Withdrawn, Solid, SubAssembly}

-- a count of 0 counts as 1
abbrev pub counted : ℕ → ℕ
counted n = max (n % 65536) 1

-- the cases: each its number, and its values in 4 bytes
pub record Listed : Type 0 where
  pub tag : ℕ
  pub values : List ℕ

abbrev pub item_listed : Item → Listed
item_listed Withdrawn = record { tag = 0; values = 0 ∷ 0 ∷ 0 ∷ 0 ∷ [] }
item_listed (Solid shape) = record { tag = 1; values = be4 shape }
item_listed (SubAssembly member count) = record { tag = 2; values = be2 member ++ be2 (counted count) }

abbrev pub item_tag : Item → ℕ
item_tag v = (item_listed v).tag

abbrev pub item_written : Item → List ℕ
item_written v = item_tag v ∷ 0 ∷ 0 ∷ 0 ∷ ((item_listed v).values ++ 0 ∷ 0 ∷ 0 ∷ 0 ∷ [])

abbrev pub item_of : ℕ → List ℕ → Option Item
item_of tag values =
    cond (tag == 0) (cond (number4 values == 0) (Some Withdrawn) None)
    (cond (tag == 1) (Some (Solid (number4 values)))
    (cond (tag == 2) (cond (number2 (drop 2 values) == 0) None (Some (SubAssembly (number2 values) (number2 (drop 2 values))))) None))

abbrev pub item_read : List ℕ → Option Item
item_read bs = cond (zero3 bs 1 && number4 (part bs 8 4) == 0) (item_of (slice_index bs 0) (part bs 4 4)) None

abbrev pub item_kind : RecordKind Item
item_kind = record { number = 2; form = record { written = item_written; read = item_read } }
