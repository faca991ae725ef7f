-- The values that play leaves are those of the play of the first jobs.
use Rattle.std.specs.Prelude.{◌≡◌, ℕ, ◌≤◌, List, take, length, Ok, Option}
use Rattle.std.specs.Option.{option_map}
use Rattle.std.specs.List.{slice_get}
use Rattle.kinds.specs.Bytes.{Bytes}
use Rattle.kinds.specs.Stamps.{Order, Kind}
use Rattle.kinds.specs.Values.{RecordKind}
use Rattle.model.specs.declared.row.Row.{Row}
use Rattle.model.specs.Rows.{Stood}
use Rattle.registrar.specs.Registry.{Registry, found}
use Rattle.law.specs.Account.{StandingAt, at_opening, played}
use Rattle.law.specs.Daybook.{journal_of}
use Rattle.law.specs.Runs.{Call, run, start}
use Rattle.archive.specs.declared.heading.Heading.{Heading}
use Rattle.archive.specs.Rule.{read_archive}
use Rattle.archive.specs.Played.{play_leaves}
use Rattle.archive.specs.Journal.{archive_bytes, stated_opening, stated_journal}

-- the value that stands at a record
abbrev pub value_at : {S R : Type 0} → StandingAt S R → ℕ → Option R
value_at {S} {R} standing x = option_map (λ (w : Stood S R). w.value) (standing x)

module _ {S R : Type 0} (o : Order S) (k : RecordKind R) where
  -- play leaves the values of the play of the first m jobs that the archive states
  abbrev pub PlaysWhatIsStated : Type 0
  PlaysWhatIsStated =
      (bs : List ℕ) (h : Heading) (space : List R) (m : ℕ) → Bytes bs → read_archive o k bs ≡ Ok h → length space ≡ h.records → m ≤ h.jobs → (x : ℕ) →
      slice_get (play_leaves k.form bs (read_archive o k bs) space m) x ≡ value_at (played (at_opening o (stated_opening o k bs)) (take m (stated_journal o k bs))) x

module _ {S R : Type 0} (k : Kind S) (r : RecordKind R) where
  -- whichever run led to a registry: played whole, what is laid down of it gives the registry's values, up to counting alike
  abbrev pub RunPlaysBack : Registry S R → Type 0
  RunPlaysBack g =
      (values : List R) (brought : Registry S R) → (found k.order values brought).answer ≡ Ok tt → (calls : List (Call S R)) →
      (run k calls (start k values brought)).desk.registry ≡ g →
      (space : List R) → length space ≡ g.own.records → (x : ℕ) →
      option_map r.form.written (slice_get (play_leaves r.form (archive_bytes k.order r g.opening (journal_of g)) (read_archive k.order r (archive_bytes k.order r g.opening (journal_of g))) space (length (journal_of g))) x)
      ≡ option_map (λ (row : Row S R). r.form.written row.value) (slice_get g.rows x)
