-- Items as text: 'withdrawn', 'solid:' and a shape, or 'sub:', a record's number, ':' and a count.
use Rattle.std.specs.Prelude.{ℕ, ◌%◌, cond, List, ◌∷◌, ◌++◌, Some, None, codes, decimal, Option, ◌==◌}
use Rattle.std.specs.Option.{option_map}
use Rattle.std.specs.Str.{bytes_eq}
use Rattle.kinds.specs.Item.{counted, item_kind}
use Rattle.kinds.specs.declared.item.Item.{Item}
use Rattle.kinds.specs.declared.item.Item.TheVariants.{Withdrawn, Solid, SubAssembly}
use Rattle.notation.specs.Text.{Notes}
use Rattle.notation.specs.Numbers.{number_of}
use Rattle.notation.specs.Cuts.{Cut, cut_at}

abbrev pub item_text : Item → List ℕ
item_text Withdrawn = codes "withdrawn"
item_text (Solid shape) = codes "solid:" ++ decimal (shape % 4294967296)
item_text (SubAssembly member count) = codes "sub:" ++ (decimal (member % 65536) ++ 58 ∷ decimal (counted count))

abbrev pub solid_parsed : List ℕ → Option Item
solid_parsed w = option_map Solid (number_of 4294967295 w)

-- a count of 0 is none
abbrev pub sub_of : Option ℕ → Option ℕ → Option Item
sub_of (Some member) (Some count) = cond (count == 0) None (Some (SubAssembly member count))
sub_of (Some member) None = None
sub_of None count = None

abbrev pub sub_cut : Option Cut → Option Item
sub_cut (Some p) = sub_of (number_of 65535 p.front) (number_of 65535 p.back)
sub_cut None = None

abbrev pub sub_parsed : List ℕ → Option Item
sub_parsed w = sub_cut (cut_at 58 w)

abbrev pub case_parsed : Option Cut → Option Item
case_parsed (Some p) =
    cond (bytes_eq p.front (codes "solid")) (solid_parsed p.back) (cond (bytes_eq p.front (codes "sub")) (sub_parsed p.back) None)
case_parsed None = None

abbrev pub item_parsed : List ℕ → Option Item
item_parsed w = cond (bytes_eq w (codes "withdrawn")) (Some Withdrawn) (case_parsed (cut_at 58 w))

abbrev pub item_notes : Notes Item
item_notes = record { text = item_text; parsed = item_parsed; form = item_kind.form }
