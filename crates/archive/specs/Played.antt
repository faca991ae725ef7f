-- The values that stand after so many jobs of an archive.
use Rattle.std.specs.Prelude.{ℕ, zero, suc, ◌+◌, ◌*◌, Bool, cond, ◌&&◌, List, length, drop, Some, None, Ok, Err, Option, Result, ◌==◌, nat_le, slice_index, slice_set}
use Rattle.kinds.specs.Bytes.{number2, part}
use Rattle.kinds.specs.Forms.{Form}
use Rattle.archive.specs.declared.fault.Fault.{Fault}
use Rattle.archive.specs.declared.fault.Fault.TheVariants.{SpaceWrong}
use Rattle.archive.specs.declared.heading.Heading.{Heading}
use Rattle.archive.specs.Faults.{onward}
use Rattle.archive.specs.Lengths.{block_length}
use Rattle.archive.specs.Directory.{stated_length}
use Rattle.archive.specs.Values.{stated_values}

module _ {R : Type 0} where
  abbrev pub value_in : Option R → List R → ℕ → List R
  value_in (Some v) vs x = slice_set vs x v
  value_in None vs x = vs

-- a put of 14 bytes, entered
abbrev pub value_entered : {R : Type 0} → Form R → List R → List ℕ → List R
value_entered f vs put = value_in (f.read (drop 2 put)) vs (number2 put)

module _ {R : Type 0} (f : Form R) (bs : List ℕ) where
  -- so many puts, from a place on
  abbrev pub values_after : ℕ → List R → ℕ → List R
  values_after at vs zero = vs
  values_after at vs (suc m) = values_after (at + 14) (value_in (f.read (part bs (at + 2) 12)) vs (number2 (part bs at 2))) m

  -- the puts of the block at a place, if it is whole
  abbrev pub block_played : ℕ → List R → List R
  block_played at vs =
      cond (nat_le (at + block_length (slice_index bs (at + 12)) (slice_index bs (at + 13))) (length bs)) (values_after (at + 16 + 22 * slice_index bs (at + 12)) vs (slice_index bs (at + 13))) vs

  -- so many blocks, whose pairs stand from a place on
  abbrev pub blocks_played : ℕ → ℕ → List R → ℕ → List R
  blocks_played dir at vs zero = vs
  blocks_played dir at vs (suc m) = blocks_played (dir + 8) (at + stated_length bs dir) (block_played at vs) m

-- room for n values, and at most as many jobs as there are
abbrev pub room_right : Heading → ℕ → ℕ → Bool
room_right h room m = room == h.records && nat_le m h.jobs

-- what play answers, and the space that it leaves, after what reading the archive answered
abbrev pub play_answer : Result Heading Fault → ℕ → ℕ → Result (Unit {0}) Fault
play_answer r room m = onward r (λ h. cond (room_right h room m) (Ok tt) (Err SpaceWrong))

module _ {R : Type 0} (f : Form R) (bs : List ℕ) where
  abbrev pub play_leaves : Result Heading Fault → List R → ℕ → List R
  play_leaves (Err e) vs m = vs
  play_leaves (Ok h) vs m =
      cond (room_right h (length vs) m)
      (blocks_played f bs 20 (20 + 8 * h.jobs + 12 * h.records) (stated_values f bs (20 + 8 * h.jobs) 12 h.records) m) vs
