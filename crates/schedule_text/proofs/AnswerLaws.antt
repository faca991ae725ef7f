-- A form that is read again.
use Rattle.std.proofs.Common.{◌≡◌, ℕ, List, [], ◌∷◌, ◌++◌, Some, None, codes, Option, ap}
use Rattle.std.specs.Option.{option_map}
use Rattle.kinds.specs.Forms.{Formed}
use Rattle.kinds.specs.WholeLaws.{whole_laws}
use Rattle.kinds.specs.VolumeLaws.{volume_laws}
use Rattle.kinds.specs.CardLaws.{card_laws}
use Rattle.kinds.specs.ItemLaws.{item_laws}
use Rattle.notation.specs.Text.{Notes, PrintsAlike, text_or}
use Rattle.notation.specs.Whole.{whole_notes}
use Rattle.notation.specs.Page.{page_notes}
use Rattle.notation.specs.Card.{card_notes}
use Rattle.notation.specs.Item.{item_notes}
use Rattle.notation.specs.Hex.{hex}
use Rattle.notation.specs.WholeLaws.{whole_alike}
use Rattle.notation.specs.PageLaws.{page_alike}
use Rattle.notation.specs.CardLaws.{card_alike}
use Rattle.notation.specs.ItemLaws.{item_alike}
use Rattle.schedule_text.specs.Answers.{reading_line}
use Rattle.schedule_text.specs.Laws.{read_again, FormsReadBack}

module _ {X : Type 0} (n : Notes X) (w : ℕ) (laws : Formed w n.form) (alike : PrintsAlike n) where
  by : (x : X) (o : Option X) → option_map n.form.written o ≡ Some (n.form.written x) → text_or n o (codes "wrong") ≡ n.text x
  by x (Some y) e = let q : n.form.written y ≡ n.form.written x = cc in alike y x q
  by x None e = absurd (cc)

  again : (kind : List ℕ) (x : X) → reading_line n kind (n.form.written x) ≡ read_again n kind x
  again kind x =
      ap (λ t. codes "read " ++ (kind ++ 32 ∷ (hex (n.form.written x) ++ (codes ": " ++ (t ++ 10 ∷ [])))))
      (by x (n.form.read (n.form.written x)) (laws.back x))

pub forms_read_back : FormsReadBack
forms_read_back = record {
  whole = again whole_notes 8 whole_laws.ordered.formed whole_alike (codes "whole");
  page = again page_notes 8 volume_laws.ordered.formed page_alike (codes "page");
  card = again card_notes 12 card_laws card_alike (codes "card");
  item = again item_notes 12 item_laws item_alike (codes "item");
}
