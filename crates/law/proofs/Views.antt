-- The words in which the proofs speak of tables: leaves of sheets, rows by record, the journal as a list of jobs.
use Rattle.std.proofs.Common.{ℕ, Bool, false, cond, ◌||◌, eqb, ◌≢◌, List, [], ◌∷◌, map, Some, None, Option}
use Rattle.kinds.specs.Stamps.{Order}
use Rattle.model.specs.declared.entry.Entry.{Entry}
use Rattle.model.specs.declared.row.Row.{Row}
use Rattle.model.specs.Rows.{with_put}
use Rattle.registrar.specs.Deciding.{look_noted, first_kept}
use Rattle.law.specs.Daybook.{Look, Line, AcceptedJob, line_of}
use Rattle.law.proofs.Members.{Pairs}

module _ {S R : Type 0} where
  -- the lines of a sheet
  abbrev pub leaf : List (Entry S R) → List (Line S R)
  leaf es = map line_of es

  -- no record stands twice
  abbrev pub Distinct : List (Entry S R) → Type 0
  Distinct es = Pairs (λ (a b : Entry S R). a.number ≢ b.number) es

  -- some look is at the record
  abbrev pub looks_at : ℕ → List (Look S R) → Bool
  looks_at x [] = false
  looks_at x (l ∷ ls) = eqb x l.number || looks_at x ls

  -- a row after a job that puts a value there, if it does, and looks at it, if it does
  abbrev pub put_by : S → Option R → Row S R → Row S R
  put_by s None r = r
  put_by s (Some v) r = with_put v s r

  abbrev pub accepted_row : Order S → S → Option R → Bool → Row S R → Row S R
  accepted_row o s p b r = put_by s p (look_noted o s b r)

  abbrev pub first_by : S → Option R → Option S → Option S
  first_by s None f = f
  first_by s (Some v) f = first_kept s f

  -- a job behind every job whose stamp is not after
  abbrev pub enter_job : Order S → AcceptedJob S R → List (AcceptedJob S R) → List (AcceptedJob S R)
  enter_job o a [] = a ∷ []
  enter_job o a (b ∷ bs) = cond (o.before a.stamp b.stamp) (a ∷ b ∷ bs) (b ∷ enter_job o a bs)
