-- The directory: pairs of offset and length, of the opening values and of each job's block.
use Rattle.std.specs.Prelude.{ℕ, zero, suc, ◌+◌, ◌*◌, Bool, true, cond, ◌&&◌, List, [], ◌∷◌, ◌++◌, length, Ok, Err, Result, ◌==◌, nat_le}
use Rattle.kinds.specs.Bytes.{be4, number4, part}
use Rattle.archive.specs.declared.fault.Fault.{Fault}
use Rattle.archive.specs.declared.fault.Fault.TheVariants.{PairWrong}
use Rattle.archive.specs.Faults.{onward}

-- the pairs of parts of these lengths, the first of which starts at a place
abbrev pub pairs_bytes : ℕ → List ℕ → List ℕ
pairs_bytes from [] = []
pairs_bytes from (len ∷ lens) = be4 from ++ (be4 len ++ pairs_bytes (from + len) lens)

-- the length that the pair at a place states
abbrev pub stated_length : List ℕ → ℕ → ℕ
stated_length bs at = number4 (part bs (at + 4) 4)

-- the pair at a place is whole, its part starts where the one before ended and ends with the archive or before; the last ends with it
abbrev pub pair_right : List ℕ → ℕ → ℕ → Bool → Bool
pair_right bs at from last =
    nat_le (at + 8) (length bs) && (number4 (part bs at 4) == from
    && (nat_le (from + stated_length bs at) (length bs) && cond last (from + stated_length bs at == length bs) true))

-- where the part of a pair ends
abbrev pub read_pair : List ℕ → ℕ → ℕ → Bool → Result ℕ Fault
read_pair bs at from last = cond (pair_right bs at from last) (Ok (from + stated_length bs at)) (Err (PairWrong at))

-- so many pairs, the last of which is the last of all
abbrev pub read_pairs : List ℕ → ℕ → ℕ → ℕ → Result ℕ Fault
read_pairs bs at from zero = Ok from
read_pairs bs at from (suc m) = onward (read_pair bs at from (m == 0)) (λ end. read_pairs bs (at + 8) end m)

-- the opening values of n records, 12 bytes each, and j blocks
abbrev pub read_directory : List ℕ → ℕ → ℕ → Result ℕ Fault
read_directory bs n j =
    onward (read_pair bs 12 (20 + 8 * j) (j == 0)) (λ end. cond (end == 20 + 8 * j + 12 * n) (read_pairs bs 20 end j) (Err (PairWrong 12)))
