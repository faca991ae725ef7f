-- What is printed of an archive.
use Rattle.std.specs.Prelude.{ℕ, List, [], ◌∷◌, ◌++◌, codes, decimal, Option, Some, None, Result, Ok, Err}
use Rattle.archive.specs.Faults.{fault_listed}
use Rattle.archive.specs.declared.fault.Fault.{Fault}

-- the place of a fault, if it has one
abbrev pub place_text : Option ℕ → List ℕ
place_text (Some place) = 32 ∷ decimal place
place_text None = []

-- what inspect answers: sound, with the number of jobs, or a fault with its number and its place
abbrev pub inspection_text : Result ℕ Fault → List ℕ
inspection_text (Ok jobs) = codes "sound " ++ decimal jobs
inspection_text (Err fault) = codes "fault " ++ (decimal (fault_listed fault).number ++ place_text (fault_listed fault).place)
