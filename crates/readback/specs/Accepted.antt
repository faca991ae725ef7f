-- An archive is accepted exactly when it is what is laid down of sound values and jobs.
use Rattle.std.specs.Prelude.{◌≡◌, ℕ, ◌↔◌, List, length, Ok}
use Rattle.kinds.specs.Bytes.{Bytes}
use Rattle.kinds.specs.Stamps.{Order}
use Rattle.kinds.specs.Values.{RecordKind}
use Rattle.law.specs.Daybook.{AcceptedJob}
use Rattle.archive.specs.Rule.{inspected}
use Rattle.archive.specs.Journal.{archive_bytes, stated_opening, stated_journal}
use Rattle.readback.specs.Sound.{Sound}

module _ {S R : Type 0} (o : Order S) (k : RecordKind R) where
  -- bytes that are laid down of sound values and jobs, so many jobs
  pub record SoundArchive (bs : List ℕ) (j : ℕ) : Type 0 where
    pub values : List R
    pub jobs : List (AcceptedJob S R)
    pub sound : Sound o k.form values jobs
    pub laid_down : bs ≡ archive_bytes o k values jobs
    pub count : length jobs ≡ j

  -- whatever the bytes: they are accepted exactly when they are a sound archive
  abbrev pub AcceptedExactly : Type 0
  AcceptedExactly = (bs : List ℕ) (j : ℕ) → Bytes bs → (inspected o k bs ≡ Ok j) ↔ SoundArchive bs j

  -- and what they are laid down of is then what they state
  abbrev pub AcceptedIsSound : Type 0
  AcceptedIsSound =
      (bs : List ℕ) (j : ℕ) → Bytes bs → inspected o k bs ≡ Ok j →
      Sound o k.form (stated_opening o k bs) (stated_journal o k bs) × (bs ≡ archive_bytes o k (stated_opening o k bs) (stated_journal o k bs)) × (length (stated_journal o k bs) ≡ j)
