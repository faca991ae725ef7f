-- What a release run can be asked for.
use Rattle.std.specs.Prelude.{ℕ, ◌≤◌, Option, Some, None}
use Rattle.release.specs.declared.options.Options.{Options}

-- a number from 1 to a largest, if there is one
abbrev pub Within : ℕ → Option ℕ → Type 0
Within most None = Unit {0}
Within most (Some n) = (1 ≤ n) × (n ≤ most)

-- as many stations and records as a run can have
abbrev pub Lawful : Options → Type 0
Lawful o = Within 1000 (Some o.stations) × Within 1024 (Some o.records)
