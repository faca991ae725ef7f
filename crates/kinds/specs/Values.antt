-- What a record kind is, and the law of its written form.
use Rattle.std.specs.Prelude.{ℕ}
use Rattle.kinds.specs.Forms.{Form, Formed, Alike}

-- a kind of records: its number and the written form
pub record RecordKind (R : Type 0) : Type 0 where
  pub number : ℕ
  pub form : Form R

abbrev pub SameValue : {R : Type 0} → RecordKind R → R → R → Type 0
SameValue k a b = Alike k.form a b

-- the law: forms of 12 bytes that read back
abbrev pub Written : {R : Type 0} → RecordKind R → Type 0
Written k = Formed 12 k.form
