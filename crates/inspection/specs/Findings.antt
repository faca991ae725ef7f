-- What an inspection finds, and the line that tells it.
use Rattle.std.specs.Prelude.{ℕ, cond, List, [], ◌∷◌, ◌++◌, length, Some, None, Ok, Err, codes, decimal, Option, Result, nat_lt}
use Rattle.archive.specs.declared.fault.Fault.{Fault}
use Rattle.archive.specs.Faults.{fault_listed}
use Rattle.inspection.specs.declared.finding.Finding.{Finding}
use Rattle.inspection.specs.declared.finding.Finding.TheVariants.{Sound, Faulty, TooLong}
use Rattle.inspection.specs.Kinds.{inspected_by_kinds}

abbrev pub finding_of : Result ℕ Fault → Finding
finding_of (Ok jobs) = Sound jobs
finding_of (Err fault) = Faulty fault

-- more than 65,536 bytes are not inspected
abbrev pub found : List ℕ → Finding
found bs = cond (nat_lt 65536 (length bs)) TooLong (finding_of (inspected_by_kinds bs))

-- a place, behind a space, if there is one
abbrev pub place_text : Option ℕ → List ℕ
place_text (Some place) = 32 ∷ decimal place
place_text None = []

abbrev pub finding_text : Finding → List ℕ
finding_text (Sound jobs) = codes "sound " ++ decimal jobs
finding_text (Faulty fault) = codes "fault " ++ (decimal (fault_listed fault).number ++ place_text (fault_listed fault).place)
finding_text TooLong = codes "too long"

-- the text and a line feed
abbrev pub finding_line : Finding → List ℕ
finding_line x = finding_text x ++ 10 ∷ []
