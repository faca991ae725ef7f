-- What is written of the jobs in a registrar's tables.
use Rattle.std.specs.Prelude.{ℕ, ◌+◌, ◌*◌, List, ◌∷◌, ◌++◌, map, length, take, drop}
use Rattle.std.specs.List.{flat_map}
use Rattle.kinds.specs.Forms.{Form}
use Rattle.kinds.specs.Stamps.{Order}
use Rattle.kinds.specs.Values.{RecordKind}
use Rattle.model.specs.declared.entry.Entry.{Entry}
use Rattle.registrar.specs.declared.journal.Head.{Head}
use Rattle.law.specs.Daybook.{job_at}
use Rattle.archive.specs.Heading.{heading_bytes}
use Rattle.archive.specs.Directory.{pairs_bytes}
use Rattle.archive.specs.Values.{values_bytes}
use Rattle.archive.specs.Journal.{block_bytes}

module _ {S R : Type 0} where
  -- the entries of a job of the journal
  abbrev pub entries_of : List (Entry S R) → Head S → List (Entry S R)
  entries_of lines h = take h.count (take 16 (drop (16 * h.place) lines))

module _ {S R : Type 0} (o : Order S) (f : Form R) (lines : List (Entry S R)) where
  -- the block of a job of the journal, those of some jobs, and how long they are
  abbrev pub block_of : Head S → List ℕ
  block_of h = block_bytes o f (job_at lines h)

  abbrev pub blocks_of : List (Head S) → List ℕ
  blocks_of hs = flat_map block_of hs

  abbrev pub lengths_of : List (Head S) → List ℕ
  lengths_of hs = map (λ h. length (block_of h)) hs

module _ {S R : Type 0} (o : Order S) (k : RecordKind R) where
  -- heading, directory, opening values and blocks
  abbrev pub whole_of : List R → List (Entry S R) → List (Head S) → List ℕ
  whole_of values lines hs =
      heading_bytes o.number k.number (length values) (length hs)
      ++ (pairs_bytes (20 + 8 * length hs) (12 * length values ∷ lengths_of o k.form lines hs)
      ++ (values_bytes k.form values ++ blocks_of o k.form lines hs))
