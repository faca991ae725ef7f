-- The heading: 12 bytes.
use Rattle.std.specs.Prelude.{ℕ, ◌+◌, ◌*◌, ◌≤◌, Bool, cond, ◌&&◌, List, ◌∷◌, ◌++◌, length, drop, Ok, Err, Result, ◌==◌, nat_le, slice_index}
use Rattle.kinds.specs.Bytes.{be2, be4}
use Rattle.archive.specs.declared.fault.Fault.{Fault}
use Rattle.archive.specs.declared.fault.Fault.TheVariants.{HeadingWrong}
use Rattle.archive.specs.declared.heading.Heading.{Heading}

-- the mark, the number of the stamp kind, that of the record kind, the number of records and that of jobs
abbrev pub heading_bytes : ℕ → ℕ → ℕ → ℕ → List ℕ
heading_bytes stamps values n j = 65 ∷ 83 ∷ 74 ∷ 49 ∷ stamps ∷ values ∷ (be2 n ++ be4 j)

abbrev pub mark_right : List ℕ → Bool
mark_right bs = slice_index bs 0 == 65 && (slice_index bs 1 == 83 && (slice_index bs 2 == 74 && slice_index bs 3 == 49))

abbrev pub kinds_right : ℕ → ℕ → List ℕ → Bool
kinds_right stamps values bs = slice_index bs 4 == stamps && slice_index bs 5 == values

-- the number of records and that of jobs, in the bytes behind mark and kinds
abbrev pub records_in : List ℕ → ℕ
records_in bs = slice_index bs 0 * 256 + slice_index bs 1

abbrev pub jobs_in : List ℕ → ℕ
jobs_in bs = slice_index bs 2 * 16777216 + slice_index bs 3 * 65536 + slice_index bs 4 * 256 + slice_index bs 5

-- 1 to 1,024 records, and at most 4,096 jobs
abbrev pub sizes_right : List ℕ → Bool
sizes_right bs = nat_le 6 (length bs) && (nat_le 1 (records_in bs) && (nat_le (records_in bs) 1024 && nat_le (jobs_in bs) 4096))

-- the upper limits alone
abbrev pub Limited : Heading → Type 0
Limited h = (h.records ≤ 1024) × (h.jobs ≤ 4096)

abbrev pub read_sizes : List ℕ → Result Heading Fault
read_sizes bs = cond (sizes_right bs) (Ok (record { records = records_in bs; jobs = jobs_in bs })) (Err HeadingWrong)

abbrev pub read_heading : ℕ → ℕ → List ℕ → Result Heading Fault
read_heading stamps values bs = cond (nat_le 6 (length bs) && (mark_right bs && kinds_right stamps values bs)) (read_sizes (drop 6 bs)) (Err HeadingWrong)
