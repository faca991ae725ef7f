-- Written forms: a fixed number of bytes for each value, and the law of reading back.
use Rattle.std.specs.Prelude.{◌≡◌, ℕ, List, length, Some, Option}
use Rattle.std.specs.Option.{option_map}
use Rattle.kinds.specs.Bytes.{Bytes}

-- how a value is written, and what bytes are read as
pub record Form (X : Type 0) : Type 0 where
  pub written : X → List ℕ
  pub read : List ℕ → Option X

-- two contents are the same value where their written forms are
abbrev pub Alike : {X : Type 0} → Form X → X → X → Type 0
Alike f x y = f.written x ≡ f.written y

-- The law of forms of n bytes: a form reads back as the same value, and every form that is read is written the same.
pub record Formed {X : Type 0} (n : ℕ) (f : Form X) : Type 0 where
  pub wide : (x : X) → length (f.written x) ≡ n
  pub bytes : (x : X) → Bytes (f.written x)
  pub back : (x : X) → option_map f.written (f.read (f.written x)) ≡ Some (f.written x)
  pub forth : (bs : List ℕ) (x : X) → length bs ≡ n → Bytes bs → f.read bs ≡ Some x → f.written x ≡ bs
