-- What holds of every archive.
use Rattle.std.specs.Prelude.{◌≡◌, ℕ, List, length, Ok}
use Rattle.kinds.specs.Bytes.{Bytes}
use Rattle.kinds.specs.Stamps.{Order}
use Rattle.kinds.specs.Values.{RecordKind}
use Rattle.archive.specs.Rule.{inspected}
use Rattle.archive.specs.Journal.{archive_bytes, stated_opening, stated_journal}

-- One form only: an accepted archive is, byte for byte, what is written for the opening values and the jobs that it states, and it states so many jobs.
abbrev pub OneForm : {S R : Type 0} → Order S → RecordKind R → Type 0
OneForm o k =
    (bs : List ℕ) (j : ℕ) → Bytes bs → inspected o k bs ≡ Ok j → (bs ≡ archive_bytes o k (stated_opening o k bs) (stated_journal o k bs)) × (length (stated_journal o k bs) ≡ j)
