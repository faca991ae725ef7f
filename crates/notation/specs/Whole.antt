-- Whole stamps as text: the number, 0 to 2^62 - 1.
use Rattle.std.specs.Prelude.{ℕ, List, decimal, Option}
use Rattle.std.specs.Option.{option_map}
use Rattle.kinds.specs.Whole.{whole, counted, whole_kind}
use Rattle.kinds.specs.declared.whole.Whole.{Whole}
use Rattle.notation.specs.Text.{Notes}
use Rattle.notation.specs.Numbers.{number_of}

abbrev pub whole_text : Whole → List ℕ
whole_text w = decimal (counted w)

abbrev pub whole_parsed : List ℕ → Option Whole
whole_parsed ds = option_map whole (number_of 4611686018427387903 ds)

abbrev pub whole_notes : Notes Whole
whole_notes = record { text = whole_text; parsed = whole_parsed; form = whole_kind.order.form }
