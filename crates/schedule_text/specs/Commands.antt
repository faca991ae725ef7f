-- What words are read as: a command, or why they are none.
use Rattle.std.specs.Prelude.{ℕ, cond, List, [], ◌∷◌, Some, None, Ok, Err, codes, Option, Result}
use Rattle.std.specs.Str.{bytes_eq}
use Rattle.notation.specs.Whole.{whole_parsed}
use Rattle.notation.specs.Page.{page_parsed}
use Rattle.notation.specs.Card.{card_parsed}
use Rattle.notation.specs.Item.{item_parsed}
use Rattle.notation.specs.Hex.{unhexed}
use Rattle.schedule_text.specs.declared.command.Between.{Between}
use Rattle.schedule_text.specs.declared.command.Bounds.{Bounds}
use Rattle.schedule_text.specs.declared.command.Bounds.TheVariants.{Wholes, Pages}
use Rattle.schedule_text.specs.declared.command.Value.{Value}
use Rattle.schedule_text.specs.declared.command.Value.TheVariants.{OfWhole, OfPage, OfCard, OfItem}
use Rattle.schedule_text.specs.declared.command.Written.{Written}
use Rattle.schedule_text.specs.declared.command.Written.TheVariants.{AsWhole, AsPage, AsCard, AsItem}
use Rattle.schedule_text.specs.declared.command.Command.{Command}
use Rattle.schedule_text.specs.declared.command.Command.TheVariants.{Pick, Form, Read}
use Rattle.schedule_text.specs.declared.reason.Reason.{Reason}
use Rattle.schedule_text.specs.declared.reason.Reason.TheVariants.{PickWords, FormWords, ReadWords, StampKind, Kind, WholeStamp, PageStamp, CardValue, ItemValue, StampForm, ValueForm, Command as NoCommand}

-- what a word is read as, or the reason why it is nothing
abbrev pub parsed_as : {X Y : Type 0} → (X → Y) → Reason → Option X → Result Y Reason
parsed_as f reason (Some x) = Ok (f x)
parsed_as f reason None = Err reason

abbrev pub in_command : {X Y : Type 0} → (X → Y) → Result X Reason → Result Y Reason
in_command f (Ok x) = Ok (f x)
in_command f (Err reason) = Err reason

-- a bound, or 'none'
abbrev pub upper_of : {S : Type 0} → (List ℕ → Option S) → List ℕ → Option (Option S)
upper_of parsed w = cond (bytes_eq w (codes "none")) (Some None) (elim (parsed w) [ Some s ↦ Some (Some s) | None ↦ None ])

abbrev pub between_of : {S : Type 0} → Option S → Option (Option S) → Option (Between S)
between_of (Some lower) (Some upper) = Some (record { lower = lower; upper = upper })
between_of (Some lower) None = None
between_of None upper = None

abbrev pub bounds_of : List ℕ → List ℕ → List ℕ → Result Bounds Reason
bounds_of kind lower upper =
    cond (bytes_eq kind (codes "whole")) (parsed_as Wholes WholeStamp (between_of (whole_parsed lower) (upper_of whole_parsed upper)))
    (cond (bytes_eq kind (codes "page")) (parsed_as Pages PageStamp (between_of (page_parsed lower) (upper_of page_parsed upper))) (Err StampKind))

abbrev pub value_of : List ℕ → List ℕ → Result Value Reason
value_of kind w =
    cond (bytes_eq kind (codes "whole")) (parsed_as OfWhole WholeStamp (whole_parsed w))
    (cond (bytes_eq kind (codes "page")) (parsed_as OfPage PageStamp (page_parsed w))
    (cond (bytes_eq kind (codes "card")) (parsed_as OfCard CardValue (card_parsed w))
    (cond (bytes_eq kind (codes "item")) (parsed_as OfItem ItemValue (item_parsed w)) (Err Kind))))

abbrev pub written_of : List ℕ → List ℕ → Result Written Reason
written_of kind w =
    cond (bytes_eq kind (codes "whole")) (parsed_as AsWhole StampForm (unhexed 8 w))
    (cond (bytes_eq kind (codes "page")) (parsed_as AsPage StampForm (unhexed 8 w))
    (cond (bytes_eq kind (codes "card")) (parsed_as AsCard ValueForm (unhexed 12 w))
    (cond (bytes_eq kind (codes "item")) (parsed_as AsItem ValueForm (unhexed 12 w)) (Err Kind))))

-- 'pick' and three words, 'form' and two, 'read' and two
abbrev pub pick_of : List (List ℕ) → Result Command Reason
pick_of [] = Err PickWords
pick_of (kind ∷ []) = Err PickWords
pick_of (kind ∷ lower ∷ []) = Err PickWords
pick_of (kind ∷ lower ∷ upper ∷ []) = in_command Pick (bounds_of kind lower upper)
pick_of (kind ∷ lower ∷ upper ∷ w ∷ ws) = Err PickWords

abbrev pub form_of : List (List ℕ) → Result Command Reason
form_of [] = Err FormWords
form_of (kind ∷ []) = Err FormWords
form_of (kind ∷ value ∷ []) = in_command Form (value_of kind value)
form_of (kind ∷ value ∷ w ∷ ws) = Err FormWords

abbrev pub read_of : List (List ℕ) → Result Command Reason
read_of [] = Err ReadWords
read_of (kind ∷ []) = Err ReadWords
read_of (kind ∷ form ∷ []) = in_command Read (written_of kind form)
read_of (kind ∷ form ∷ w ∷ ws) = Err ReadWords

abbrev pub command_of : List (List ℕ) → Result Command Reason
command_of [] = Err NoCommand
command_of (name ∷ ws) =
    cond (bytes_eq name (codes "pick")) (pick_of ws)
    (cond (bytes_eq name (codes "form")) (form_of ws) (cond (bytes_eq name (codes "read")) (read_of ws) (Err NoCommand)))
