-- What is printed by a form is read back.
use Rattle.std.specs.Prelude.{◌≡◌, ℕ, List, [], ◌∷◌, ◌++◌, codes}
use Rattle.kinds.specs.declared.whole.Whole.{Whole}
use Rattle.kinds.specs.declared.volume.VolumePage.{VolumePage}
use Rattle.kinds.specs.declared.card.Card.{Card}
use Rattle.kinds.specs.declared.item.Item.{Item}
use Rattle.notation.specs.Text.{Notes}
use Rattle.notation.specs.Whole.{whole_notes}
use Rattle.notation.specs.Page.{page_notes}
use Rattle.notation.specs.Card.{card_notes}
use Rattle.notation.specs.Item.{item_notes}
use Rattle.notation.specs.Hex.{hex}
use Rattle.schedule_text.specs.declared.command.Written.TheVariants.{AsWhole, AsPage, AsCard, AsItem}
use Rattle.schedule_text.specs.declared.command.Command.TheVariants.{Read}
use Rattle.schedule_text.specs.Answers.{printed}

-- the line that reads the form of x, and answers with the text of x
abbrev pub read_again : {X : Type 0} → Notes X → List ℕ → X → List ℕ
read_again n kind x = codes "read " ++ (kind ++ 32 ∷ (hex (n.form.written x) ++ (codes ": " ++ (n.text x ++ 10 ∷ []))))

-- The law: a reading of what a form printed answers with what the form was given.
pub record FormsReadBack : Type 0 where
  pub whole : (s : Whole) → printed (Read (AsWhole (whole_notes.form.written s))) ≡ read_again whole_notes (codes "whole") s
  pub page : (s : VolumePage) → printed (Read (AsPage (page_notes.form.written s))) ≡ read_again page_notes (codes "page") s
  pub card : (v : Card) → printed (Read (AsCard (card_notes.form.written v))) ≡ read_again card_notes (codes "card") v
  pub item : (v : Item) → printed (Read (AsItem (item_notes.form.written v))) ≡ read_again item_notes (codes "item") v
