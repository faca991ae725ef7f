-- A printed card parses back.
use Rattle.std.specs.Prelude.{◌≡◌, ℕ, ◌%◌, List, ◌∷◌, ◌++◌, drop, Some, decimal, slice_index, refl}
use Rattle.std.proofs.Common.{sym, ap, ◌∙◌, arith}
use Rattle.std.specs.Option.{option_map}
use Rattle.std.proofs.lemmas.Bool.{false≢true}
use Rattle.kinds.specs.Bytes.{number4}
use Rattle.kinds.specs.Card.{card_written, unit_number, unit_numbered}
use Rattle.kinds.specs.declared.card.Card.{Card}
use Rattle.kinds.specs.declared.card.Unit.{Unit as Measure}
use Rattle.kinds.specs.declared.card.Unit.TheVariants.{Millimetre, Centimetre, Metre, Inch}
use Rattle.kinds.specs.ByteLaws.{again4, wrap4}
use Rattle.notation.specs.Text.{ParsesBack, PrintsAlike}
use Rattle.notation.specs.Cuts.{cut_at}
use Rattle.notation.specs.Card.{unit_name, unit_named, card_notes, card_text, card_cut, card_rest, card_parsed}
use Rattle.notation.specs.NumberLaws.{number_back}
use Rattle.notation.specs.CutLaws.{decimal_cut}

unit_back : (u : Measure) → unit_named (unit_name u) ≡ Some u
unit_back Millimetre = refl
unit_back Centimetre = refl
unit_back Metre = refl
unit_back Inch = refl

unit_cut : (u : Measure) (ys : List ℕ) → cut_at 58 (unit_name u ++ 58 ∷ ys) ≡ Some (record { front = unit_name u; back = ys })
unit_cut Millimetre ys = refl
unit_cut Centimetre ys = refl
unit_cut Metre ys = refl
unit_cut Inch ys = refl

parsed : (c : Card) → card_parsed (card_text c) ≡ Some (record { revision = c.revision % 4294967296; unit = c.unit; mass = c.mass % 4294967296 })
parsed c =
    let r = number_back 4294967295 (c.revision % 4294967296) (omega arith) (omega arith) in
    let u = unit_back c.unit in
    let m = number_back 4294967295 (c.mass % 4294967296) (omega arith) (omega arith) in
    let mass : List ℕ = decimal (c.mass % 4294967296) in
    ap card_cut (decimal_cut 58 (c.revision % 4294967296) (unit_name c.unit ++ 58 ∷ mass) false≢true (omega arith))
    ∙ ap (card_rest (decimal (c.revision % 4294967296))) (unit_cut c.unit mass) ∙ cc

pub card_back : ParsesBack card_notes
card_back c =
    let r = again4 c.revision in
    let m = again4 c.mass in
    ap (option_map card_written) (parsed c) ∙ cc

unit_back_number : (u : Measure) → unit_numbered (unit_number u) ≡ Some u
unit_back_number Millimetre = refl
unit_back_number Centimetre = refl
unit_back_number Metre = refl
unit_back_number Inch = refl

-- units with one number have one name
unit_alike : (u v : Measure) → unit_number u ≡ unit_number v → unit_name u ≡ unit_name v
unit_alike u v e =
    let same : Some u ≡ Some v = sym (unit_back_number u) ∙ ap unit_numbered e ∙ unit_back_number v in
    let is : u ≡ v = cc in
    ap unit_name is

pub card_alike : PrintsAlike card_notes
card_alike a b e =
    let r = sym (wrap4 a.revision) ∙ ap number4 e ∙ wrap4 b.revision in
    let m = sym (wrap4 a.mass) ∙ ap (λ bs. number4 (drop 8 bs)) e ∙ wrap4 b.mass in
    let u = unit_alike a.unit b.unit (ap (λ bs. slice_index bs 4) e) in
    ap (λ n. decimal n ++ 58 ∷ (unit_name a.unit ++ 58 ∷ decimal (a.mass % 4294967296))) r
    ∙ ap (λ w. decimal (b.revision % 4294967296) ++ 58 ∷ (w ++ 58 ∷ decimal (a.mass % 4294967296))) u
    ∙ ap (λ n. decimal (b.revision % 4294967296) ++ 58 ∷ (unit_name b.unit ++ 58 ∷ decimal n)) m
