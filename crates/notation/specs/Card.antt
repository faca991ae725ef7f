-- Cards as text: revision, ':', unit, ':', mass.
use Rattle.std.specs.Prelude.{ℕ, ◌%◌, cond, List, ◌∷◌, ◌++◌, Some, None, codes, decimal, Option}
use Rattle.std.specs.Str.{bytes_eq}
use Rattle.kinds.specs.Card.{card_kind}
use Rattle.kinds.specs.declared.card.Card.{Card}
use Rattle.kinds.specs.declared.card.Unit.{Unit as Measure}
use Rattle.kinds.specs.declared.card.Unit.TheVariants.{Millimetre, Centimetre, Metre, Inch}
use Rattle.notation.specs.Text.{Notes}
use Rattle.notation.specs.Numbers.{number_of}
use Rattle.notation.specs.Cuts.{Cut, cut_at}

-- the words for the units
abbrev pub unit_name : Measure → List ℕ
unit_name Millimetre = codes "mm"
unit_name Centimetre = codes "cm"
unit_name Metre = codes "m"
unit_name Inch = codes "inch"

abbrev pub unit_named : List ℕ → Option Measure
unit_named w =
    cond (bytes_eq w (codes "mm")) (Some Millimetre)
    (cond (bytes_eq w (codes "cm")) (Some Centimetre) (cond (bytes_eq w (codes "m")) (Some Metre) (cond (bytes_eq w (codes "inch")) (Some Inch) None)))

abbrev pub card_text : Card → List ℕ
card_text c = decimal (c.revision % 4294967296) ++ 58 ∷ (unit_name c.unit ++ 58 ∷ decimal (c.mass % 4294967296))

abbrev pub card_of : Option ℕ → Option Measure → Option ℕ → Option Card
card_of (Some revision) (Some unit) (Some mass) = Some (record { revision = revision; unit = unit; mass = mass })
card_of (Some revision) (Some unit) None = None
card_of (Some revision) None mass = None
card_of None unit mass = None

abbrev pub card_rest : List ℕ → Option Cut → Option Card
card_rest revision (Some p) = card_of (number_of 4294967295 revision) (unit_named p.front) (number_of 4294967295 p.back)
card_rest revision None = None

abbrev pub card_cut : Option Cut → Option Card
card_cut (Some p) = card_rest p.front (cut_at 58 p.back)
card_cut None = None

abbrev pub card_parsed : List ℕ → Option Card
card_parsed w = card_cut (cut_at 58 w)

abbrev pub card_notes : Notes Card
card_notes = record { text = card_text; parsed = card_parsed; form = card_kind.form }
