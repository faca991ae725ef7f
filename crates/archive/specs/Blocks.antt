-- The block of a job: its stamp, ticket and sizes in 16 bytes, its looks, and its puts.
use Rattle.std.specs.Prelude.{ℕ, zero, suc, ◌+◌, ◌-◌, ◌*◌, ◌≤◌, Bool, true, cond, not, ◌&&◌, List, length, is_some, Some, None, Ok, Err, Option, Result, ◌==◌, nat_le, slice_index}
use Rattle.kinds.specs.Bytes.{number4, part}
use Rattle.kinds.specs.Forms.{Form}
use Rattle.kinds.specs.Stamps.{Order}
use Rattle.archive.specs.declared.fault.Fault.{Fault}
use Rattle.archive.specs.declared.fault.Fault.TheVariants.{BlockWrong}
use Rattle.archive.specs.declared.blocks.Opened.{Opened}
use Rattle.archive.specs.Faults.{onward}
use Rattle.archive.specs.Lengths.{length_right}
use Rattle.archive.specs.Directory.{read_pair}
use Rattle.archive.specs.Values.{read_values}
use Rattle.archive.specs.Names.{numbers, names_right}

-- the stamp whose 8 bytes stand at a place
abbrev pub stamp_at : {S : Type 0} → Order S → List ℕ → ℕ → Option S
stamp_at o bs at = o.form.read (part bs at 8)

-- every look's stamp is one
abbrev pub all_noted : {S : Type 0} → Order S → List ℕ → ℕ → ℕ → Bool
all_noted o bs at zero = true
all_noted o bs at (suc m) = is_some (stamp_at o bs (at + 2)) && all_noted o bs (at + 22) m

-- after the least stamp, not before the stamp of the block before, a ticket of at least 1, two zero bytes, and the length of the looks and puts
abbrev pub front_right : {S : Type 0} → Order S → List ℕ → ℕ → ℕ → S → S → Bool
front_right o bs at len low s =
    o.before o.least s && (not (o.before s low) && (nat_le 1 (number4 (part bs (at + 8) 4))
    && (slice_index bs (at + 14) == 0 && (slice_index bs (at + 15) == 0 && length_right (slice_index bs (at + 12)) (slice_index bs (at + 13)) len))))

abbrev pub with_stamp : {S : Type 0} → Order S → List ℕ → ℕ → ℕ → S → Option S → Result (Opened S) Fault
with_stamp o bs at len low None = Err (BlockWrong at)
with_stamp o bs at len low (Some s) =
    cond (front_right o bs at len low s) (Ok (record { stamp = s; looks = slice_index bs (at + 12); puts = slice_index bs (at + 13) })) (Err (BlockWrong at))

-- the first 16 bytes of a block at a place, of a length, behind a block of a stamp
abbrev pub read_front : {S : Type 0} → Order S → List ℕ → ℕ → ℕ → S → Result (Opened S) Fault
read_front o bs at len low = cond (nat_le 16 len) (with_stamp o bs at len low (stamp_at o bs at)) (Err (BlockWrong at))

-- the looks and puts of a block at a place, at most 16 each, are all there
abbrev pub Whole : {S : Type 0} → List ℕ → ℕ → Opened S → Type 0
Whole bs at h = (at + 16 + 22 * h.looks + 14 * h.puts ≤ length bs) × (h.looks ≤ 16) × (h.puts ≤ 16)

-- its record numbers, and the stamps of its looks
abbrev pub names_of : {S : Type 0} → Order S → List ℕ → ℕ → ℕ → ℕ → ℕ → Bool
names_of o bs n at r p = names_right n (numbers bs (at + 16) 22 r) (numbers bs (at + 16 + 22 * r) 14 p) && all_noted o bs (at + 16) r

-- the whole block: all but the values, then the values
abbrev pub read_block : {S R : Type 0} → Order S → Form R → List ℕ → ℕ → ℕ → ℕ → S → Result (Opened S) Fault
read_block o f bs n at len low =
    onward (read_front o bs at len low) (λ h.
    cond (names_of o bs n at h.looks h.puts)
    (onward (read_values f bs (at + 26) 22 h.looks) (λ _. onward (read_values f bs (at + 18 + 22 * h.looks) 14 h.puts) (λ _. Ok h)))
    (Err (BlockWrong at)))

-- the blocks of the pairs from a place on; their pairs are read once more
abbrev pub read_blocks : {S R : Type 0} → Order S → Form R → List ℕ → ℕ → ℕ → ℕ → S → ℕ → Result ℕ Fault
read_blocks o f bs n dir at low zero = Ok at
read_blocks o f bs n dir at low (suc m) =
    onward (read_pair bs dir at (m == 0)) (λ end. onward (read_block o f bs n at (end - at) low) (λ h. read_blocks o f bs n (dir + 8) end h.stamp m))
