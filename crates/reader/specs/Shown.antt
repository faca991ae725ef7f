-- Looks and puts as a reader shows them.
use Rattle.std.specs.Prelude.{ℕ, ◌+◌, List, Some, None, Option}
use Rattle.std.specs.Option.{option_map}
use Rattle.kinds.specs.Bytes.{number2, part}
use Rattle.kinds.specs.Forms.{Form}
use Rattle.kinds.specs.Stamps.{Order}
use Rattle.law.specs.Daybook as daybook
use Rattle.archive.specs.Blocks.{stamp_at}
use Rattle.reader.specs.declared.looks.Look.{Look}
use Rattle.reader.specs.declared.puts.Put.{Put}

-- the look and the put of the daybook that is shown
abbrev pub noted_look : {S R : Type 0} → Look S R → daybook.Look S R
noted_look l = record { number = l.number; saw = record { value = l.value; stamp = l.stamp } }

abbrev pub entered_put : {R : Type 0} → Put R → daybook.Put R
entered_put p = record { number = p.number; value = p.value }

-- and the other way
module _ {S R : Type 0} where
  abbrev pub look_shown : daybook.Look S R → Look S R
  look_shown l = record { number = l.number; stamp = l.saw.stamp; value = l.saw.value }

module _ {R : Type 0} where
  abbrev pub put_shown : daybook.Put R → Put R
  put_shown p = record { number = p.number; value = p.value }

-- the look and the put at a place
module _ {S R : Type 0} where
  abbrev pub look_if : ℕ → Option S → Option R → Option (Look S R)
  look_if x (Some s) (Some v) = Some (record { number = x; stamp = s; value = v })
  look_if x (Some s) None = None
  look_if x None v = None

  abbrev pub look_at : Order S → Form R → List ℕ → ℕ → Option (Look S R)
  look_at o f bs at = look_if (number2 (part bs at 2)) (stamp_at o bs (at + 2)) (f.read (part bs (at + 10) 12))

module _ {R : Type 0} where
  abbrev pub put_at : Form R → List ℕ → ℕ → Option (Put R)
  put_at f bs at = option_map (λ v. record { number = number2 (part bs at 2); value = v }) (f.read (part bs (at + 2) 12))
