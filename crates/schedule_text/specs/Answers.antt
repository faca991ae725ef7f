-- What a command prints: the whole command, ': ', the answer, and a line feed.
use Rattle.std.specs.Prelude.{ℕ, List, [], ◌∷◌, ◌++◌, codes, Option}
use Rattle.kinds.specs.Stamps.{Kind}
use Rattle.kinds.specs.Whole.{whole_kind}
use Rattle.kinds.specs.Volume.{volume_kind}
use Rattle.notation.specs.Text.{Notes, text_or}
use Rattle.notation.specs.Whole.{whole_notes}
use Rattle.notation.specs.Page.{page_notes}
use Rattle.notation.specs.Card.{card_notes}
use Rattle.notation.specs.Item.{item_notes}
use Rattle.notation.specs.Hex.{hex}
use Rattle.schedule_text.specs.declared.command.Between.{Between}
use Rattle.schedule_text.specs.declared.command.Bounds.{Bounds}
use Rattle.schedule_text.specs.declared.command.Bounds.TheVariants.{Wholes, Pages}
use Rattle.schedule_text.specs.declared.command.Value.{Value}
use Rattle.schedule_text.specs.declared.command.Value.TheVariants.{OfWhole, OfPage, OfCard, OfItem}
use Rattle.schedule_text.specs.declared.command.Written.{Written}
use Rattle.schedule_text.specs.declared.command.Written.TheVariants.{AsWhole, AsPage, AsCard, AsItem}
use Rattle.schedule_text.specs.declared.command.Command.{Command}
use Rattle.schedule_text.specs.declared.command.Command.TheVariants.{Pick, Form, Read}

-- the stamp between the bounds, or 'none'
abbrev pub pick_line : {S : Type 0} → Kind S → Notes S → List ℕ → Between S → List ℕ
pick_line k n kind b =
    codes "pick " ++ (kind ++ 32 ∷ (n.text b.lower ++ 32 ∷ (text_or n b.upper (codes "none") ++ (codes ": "
    ++ (text_or n (k.pick b.lower b.upper) (codes "none") ++ 10 ∷ [])))))

-- the written form
abbrev pub form_line : {X : Type 0} → Notes X → List ℕ → X → List ℕ → List ℕ
form_line n kind x form = codes "form " ++ (kind ++ 32 ∷ (n.text x ++ (codes ": " ++ (hex form ++ 10 ∷ []))))

-- the stamp or value of a written form, or 'wrong'
abbrev pub read_line : {X : Type 0} → Notes X → List ℕ → List ℕ → Option X → List ℕ
read_line n kind form x = codes "read " ++ (kind ++ 32 ∷ (hex form ++ (codes ": " ++ (text_or n x (codes "wrong") ++ 10 ∷ []))))

abbrev pub written_line : {X : Type 0} → Notes X → List ℕ → X → List ℕ
written_line n kind x = form_line n kind x (n.form.written x)

abbrev pub reading_line : {X : Type 0} → Notes X → List ℕ → List ℕ → List ℕ
reading_line n kind form = read_line n kind form (n.form.read form)

abbrev pub picked : Bounds → List ℕ
picked (Wholes b) = pick_line whole_kind whole_notes (codes "whole") b
picked (Pages b) = pick_line volume_kind page_notes (codes "page") b

abbrev pub formed : Value → List ℕ
formed (OfWhole s) = written_line whole_notes (codes "whole") s
formed (OfPage s) = written_line page_notes (codes "page") s
formed (OfCard v) = written_line card_notes (codes "card") v
formed (OfItem v) = written_line item_notes (codes "item") v

abbrev pub reading : Written → List ℕ
reading (AsWhole form) = reading_line whole_notes (codes "whole") form
reading (AsPage form) = reading_line page_notes (codes "page") form
reading (AsCard form) = reading_line card_notes (codes "card") form
reading (AsItem form) = reading_line item_notes (codes "item") form

abbrev pub printed : Command → List ℕ
printed (Pick b) = picked b
printed (Form x) = formed x
printed (Read form) = reading form
