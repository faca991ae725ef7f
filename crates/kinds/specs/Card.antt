-- Cards: revision, unit and mass.
use Rattle.std.specs.Prelude.{ℕ, ◌+◌, Bool, cond, ◌&&◌, List, ◌∷◌, ◌++◌, Some, None, Option, ◌==◌, slice_index, codes, decimal}
use Rattle.kinds.specs.Bytes.{be4, number4, part}
use Rattle.kinds.specs.Values.{RecordKind}
use Rattle.kinds.specs.declared.card.Card.{Card}
use Rattle.kinds.specs.declared.card.NoUnit.{NoUnit}
use Rattle.kinds.specs.declared.card.Unit.{Unit as Measure}
use Rattle.kinds.specs.declared.card.Unit.TheVariants.{Millimetre, Centimetre, Metre, Inch}

-- the units and their numbers
abbrev pub unit_number : Measure → ℕ
unit_number Millimetre = 0
unit_number Centimetre = 1
unit_number Metre = 2
unit_number Inch = 3

abbrev pub unit_numbered : ℕ → Option Measure
unit_numbered n =
    cond (n == 0) (Some Millimetre) (cond (n == 1) (Some Centimetre) (cond (n == 2) (Some Metre) (cond (n == 3) (Some Inch) None)))

abbrev pub no_unit : ℕ → NoUnit
no_unit n = record { 0 = n }

abbrev pub no_unit_text : ℕ → List ℕ
no_unit_text n = codes "no unit has number " ++ decimal n

abbrev pub card_written : Card → List ℕ
card_written c = be4 c.revision ++ (unit_number c.unit ∷ 0 ∷ 0 ∷ 0 ∷ be4 c.mass)

abbrev pub zero3 : List ℕ → ℕ → Bool
zero3 bs at = slice_index bs at == 0 && (slice_index bs (at + 1) == 0 && slice_index bs (at + 2) == 0)

abbrev pub with_unit : ℕ → ℕ → Option Measure → Option Card
with_unit revision mass None = None
with_unit revision mass (Some unit) = Some (record { revision = revision; unit = unit; mass = mass })

abbrev pub card_read : List ℕ → Option Card
card_read bs = cond (zero3 bs 5) (with_unit (number4 (part bs 0 4)) (number4 (part bs 8 4)) (unit_numbered (slice_index bs 4))) None

abbrev pub card_kind : RecordKind Card
card_kind = record { number = 1; form = record { written = card_written; read = card_read } }
