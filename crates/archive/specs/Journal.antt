-- The bytes of an archive, and the opening values and jobs that bytes state.
use Rattle.std.specs.Prelude.{ℕ, zero, suc, ◌+◌, ◌*◌, List, [], ◌∷◌, ◌++◌, map, length, drop, Some, None, Option, slice_index}
use Rattle.std.specs.List.{flat_map}
use Rattle.kinds.specs.Bytes.{be2, be4, number2, number4, part}
use Rattle.kinds.specs.Forms.{Form}
use Rattle.kinds.specs.Stamps.{Order}
use Rattle.kinds.specs.Values.{RecordKind}
use Rattle.law.specs.Daybook.{Look, Put, AcceptedJob}
use Rattle.archive.specs.Heading.{heading_bytes, records_in, jobs_in}
use Rattle.archive.specs.Directory.{pairs_bytes, stated_length}
use Rattle.archive.specs.Values.{values_bytes, stated_values}
use Rattle.archive.specs.Blocks.{stamp_at}

module _ {S R : Type 0} (o : Order S) (f : Form R) where
  -- record 2 bytes, noted stamp 8, value 12
  abbrev pub look_bytes : Look S R → List ℕ
  look_bytes l = be2 l.number ++ (o.form.written l.saw.stamp ++ f.written l.saw.value)

  -- record 2 bytes, value 12
  abbrev pub put_bytes : Put R → List ℕ
  put_bytes p = be2 p.number ++ f.written p.value

  -- stamp 8 bytes, ticket 4, number of looks 1, number of puts 1, two zero bytes; then the looks and the puts
  abbrev pub block_bytes : AcceptedJob S R → List ℕ
  block_bytes a =
      o.form.written a.stamp ++ (be4 a.ticket ++ ((length a.looks ∷ length a.puts ∷ 0 ∷ 0 ∷ []) ++ (flat_map look_bytes a.looks ++ flat_map put_bytes a.puts)))

  abbrev pub block_lengths : List (AcceptedJob S R) → List ℕ
  block_lengths js = map (λ j. length (block_bytes j)) js

  -- the looks that bytes state, so many from a place on
  abbrev pub seen_look : ℕ → Option S → Option R → List (Look S R) → List (Look S R)
  seen_look x (Some s) (Some v) ls = record { number = x; saw = record { value = v; stamp = s } } ∷ ls
  seen_look x (Some s) None ls = ls
  seen_look x None v ls = ls

  abbrev pub stated_looks : List ℕ → ℕ → ℕ → List (Look S R)
  stated_looks bs at zero = []
  stated_looks bs at (suc m) = seen_look (number2 (part bs at 2)) (stamp_at o bs (at + 2)) (f.read (part bs (at + 10) 12)) (stated_looks bs (at + 22) m)

  -- the puts
  abbrev pub seen_put : ℕ → Option R → List (Put R) → List (Put R)
  seen_put x (Some v) ps = record { number = x; value = v } ∷ ps
  seen_put x None ps = ps

  abbrev pub stated_puts : List ℕ → ℕ → ℕ → List (Put R)
  stated_puts bs at zero = []
  stated_puts bs at (suc m) = seen_put (number2 (part bs at 2)) (f.read (part bs (at + 2) 12)) (stated_puts bs (at + 14) m)

  -- the job of the block at a place, under a stamp
  abbrev pub stated_job : List ℕ → ℕ → S → AcceptedJob S R
  stated_job bs at s =
      record {
        stamp = s;
        ticket = number4 (part bs (at + 8) 4);
        looks = stated_looks bs (at + 16) (slice_index bs (at + 12));
        puts = stated_puts bs (at + 16 + 22 * slice_index bs (at + 12)) (slice_index bs (at + 13));
      }

  abbrev pub seen_job : List ℕ → ℕ → Option S → List (AcceptedJob S R) → List (AcceptedJob S R)
  seen_job bs at (Some s) js = stated_job bs at s ∷ js
  seen_job bs at None js = js

  abbrev pub stated_jobs : List ℕ → ℕ → ℕ → ℕ → List (AcceptedJob S R)
  stated_jobs bs dir at zero = []
  stated_jobs bs dir at (suc m) = seen_job bs at (stamp_at o bs at) (stated_jobs bs (dir + 8) (at + stated_length bs dir) m)

-- the numbers that a heading states
abbrev pub stated_records : List ℕ → ℕ
stated_records bs = records_in (drop 6 bs)

abbrev pub stated_count : List ℕ → ℕ
stated_count bs = jobs_in (drop 6 bs)

module _ {S R : Type 0} (o : Order S) (k : RecordKind R) where
  -- heading, directory, opening values, blocks
  abbrev pub archive_bytes : List R → List (AcceptedJob S R) → List ℕ
  archive_bytes values jobs =
      heading_bytes o.number k.number (length values) (length jobs)
      ++ (pairs_bytes (20 + 8 * length jobs) (12 * length values ∷ block_lengths o k.form jobs)
      ++ (values_bytes k.form values ++ flat_map (block_bytes o k.form) jobs))

  abbrev pub stated_opening : List ℕ → List R
  stated_opening bs = stated_values k.form bs (20 + 8 * stated_count bs) 12 (stated_records bs)

  abbrev pub stated_journal : List ℕ → List (AcceptedJob S R)
  stated_journal bs = stated_jobs o k.form bs 20 (20 + 8 * stated_count bs + 12 * stated_records bs) (stated_count bs)
