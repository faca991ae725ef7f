-- How a kind of stamps or values is written as text, and the law of parsing back.
use Rattle.std.specs.Prelude.{◌≡◌, ℕ, List, Some, None, Option}
use Rattle.std.specs.Option.{option_map}
use Rattle.kinds.specs.Forms.{Form, Alike}

-- the text that is printed, what a text is parsed as, and the written form of the kind
pub record Notes (X : Type 0) : Type 0 where
  pub text : X → List ℕ
  pub parsed : List ℕ → Option X
  pub form : Form X

-- The law: what is printed parses back as the same stamp or value.
abbrev pub ParsesBack : {X : Type 0} → Notes X → Type 0
ParsesBack {X} n = (x : X) → option_map n.form.written (n.parsed (n.text x)) ≡ Some (n.form.written x)

-- The law: contents that are the same stamp or value are printed alike.
abbrev pub PrintsAlike : {X : Type 0} → Notes X → Type 0
PrintsAlike {X} n = (x y : X) → Alike n.form x y → n.text x ≡ n.text y

-- the text of a stamp or value that may be absent, with the word for none
abbrev pub text_or : {X : Type 0} → Notes X → Option X → List ℕ → List ℕ
text_or n (Some x) none = n.text x
text_or n None none = none
