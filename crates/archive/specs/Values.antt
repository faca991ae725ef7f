-- Values in an archive.
use Rattle.std.specs.Prelude.{ℕ, zero, suc, ◌+◌, List, [], ◌∷◌, Some, None, Ok, Option, Result}
use Rattle.std.specs.Option.{ok_or}
use Rattle.std.specs.List.{flat_map}
use Rattle.kinds.specs.Bytes.{part}
use Rattle.kinds.specs.Forms.{Form}
use Rattle.archive.specs.declared.fault.Fault.{Fault}
use Rattle.archive.specs.declared.fault.Fault.TheVariants.{ValueWrong}
use Rattle.archive.specs.Faults.{onward}

abbrev pub values_bytes : {R : Type 0} → Form R → List R → List ℕ
values_bytes f vs = flat_map f.written vs

-- the value whose 12 bytes stand at a place
abbrev pub read_value : {R : Type 0} → Form R → List ℕ → ℕ → Result R Fault
read_value f bs at = ok_or (f.read (part bs at 12)) (ValueWrong at)

-- so many values, each so many bytes after the one before
abbrev pub read_values : {R : Type 0} → Form R → List ℕ → ℕ → ℕ → ℕ → Result (Unit {0}) Fault
read_values f bs at step zero = Ok tt
read_values f bs at step (suc m) = onward (read_value f bs at) (λ _. read_values f bs (at + step) step m)

-- the values that bytes state
abbrev pub value_first : {R : Type 0} → Option R → List R → List R
value_first (Some v) vs = v ∷ vs
value_first None vs = vs

abbrev pub stated_values : {R : Type 0} → Form R → List ℕ → ℕ → ℕ → ℕ → List R
stated_values f bs at step zero = []
stated_values f bs at step (suc m) = value_first (f.read (part bs at 12)) (stated_values f bs (at + step) step m)
