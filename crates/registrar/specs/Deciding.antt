-- How the registrar decides on a submission, and what an acceptance does to the rows.
use Rattle.std.specs.Prelude.{ℕ, Bool, true, false, cond, not, ◌&&◌, ◌||◌, List, [], ◌∷◌, Some, None, Option, slice_set}
use Rattle.std.specs.List.{slice_get}
use Rattle.kinds.specs.Stamps.{Order, Kind}
use Rattle.kinds.specs.Bounds.{later, same}
use Rattle.model.specs.declared.entry.Entry.{Entry}
use Rattle.model.specs.declared.row.Row.{Row}
use Rattle.model.specs.declared.verdict.Verdict.{Verdict}
use Rattle.model.specs.declared.verdict.Verdict.TheVariants.{Accepted, Overtaken, Gone, NoPlace}
use Rattle.model.specs.Rows.{write_of, older, with_put, with_look}
use Rattle.station.specs.Station.{narrowed, lower_by}

-- a submission: its ticket, its bounds and its entries
pub record Waiting (S R : Type 0) : Type 0 where
  pub ticket : ℕ
  pub lower : S
  pub upper : Option S
  pub entries : List (Entry S R)

module _ {S R : Type 0} (o : Order S) where
  abbrev pub noted_elsewhere : S → Option (Row S R) → Bool
  noted_elsewhere noted None = false
  noted_elsewhere noted (Some r) = not (same o noted (write_of r))

  -- a put entry whose noted stamp is not the row's write stamp
  abbrev pub overtaken : List (Row S R) → List (Entry S R) → Bool
  overtaken rows [] = false
  overtaken rows (e ∷ es) = (e.put && noted_elsewhere e.noted (slice_get rows e.number)) || overtaken rows es

-- what a search among the versions finds: nothing, or the version that follows, if any
module _ {S : Type 0} (o : Order S) where
  abbrev pub follows_in : S → S → List S → Option (Option S)
  follows_in noted next [] = None
  follows_in noted next (v ∷ vs) = cond (same o noted v) (Some (Some next)) (follows_in noted v vs)

  -- none: gone; otherwise the upper bound, made the earlier of itself and the version that follows
  abbrev pub bounded_by : Bool → Option (Option S) → Option S → Option (Option S)
  bounded_by false found upper = Some upper
  bounded_by true None upper = None
  bounded_by true (Some next) upper = Some (narrowed o upper next)

module _ {S R : Type 0} (o : Order S) where
  abbrev pub following : S → Option (Row S R) → Option (Option S)
  following noted None = None
  following noted (Some r) = cond (same o noted (write_of r)) (Some None) (follows_in o noted (write_of r) (older r))

abbrev pub and_then : {A B : Type 0} → (A → Option B) → Option A → Option B
and_then f None = None
and_then f (Some a) = f a

module _ {S R : Type 0} (o : Order S) where
  -- the upper bound by the versions that follow what the open entries noted; none where one is gone
  abbrev pub upper_bound : List (Row S R) → List (Entry S R) → Option S → Option (Option S)
  upper_bound rows [] upper = Some upper
  upper_bound rows (e ∷ es) upper = and_then (upper_bound rows es) (bounded_by o e.opened (following o e.noted (slice_get rows e.number)) upper)

  abbrev pub last_use : Option (Row S R) → Option S
  last_use None = None
  last_use (Some r) = Some (later o r.read (write_of r))

  -- the lower bound by the read and write stamps of what it puts
  abbrev pub lower_bound : List (Row S R) → List (Entry S R) → S → S
  lower_bound rows es lower = lower_by o (λ x. last_use (slice_get rows x)) es lower

abbrev pub placed : {S : Type 0} → Option S → Verdict S
placed None = NoPlace
placed (Some s) = Accepted s

abbrev pub within : {S : Type 0} → Kind S → S → Option (Option S) → Verdict S
within k lower None = Gone
within k lower (Some upper) = placed (k.pick lower upper)

abbrev pub unless_overtaken : {S : Type 0} → Bool → Verdict S → Verdict S
unless_overtaken true v = Overtaken
unless_overtaken false v = v

-- overtaken, then gone, then no place, else accepted with what pick answers
abbrev pub verdict_on : {S R : Type 0} → Kind S → List (Row S R) → Waiting S R → Verdict S
verdict_on k rows w =
    unless_overtaken (overtaken k.order rows w.entries)
    (within k (lower_bound k.order rows w.entries w.lower) (upper_bound k.order rows w.entries w.upper))

-- Acceptance, entry by entry in sheet order.
module _ {S R : Type 0} (o : Order S) (s : S) where
  abbrev pub look_noted : Bool → Row S R → Row S R
  look_noted false r = r
  look_noted true r = with_look o s r

  abbrev pub put_entered : Bool → R → Row S R → Row S R
  put_entered false v r = r
  put_entered true v r = with_put v s r

  abbrev pub row_after : Entry S R → Row S R → Row S R
  row_after e r = put_entered e.put e.wrote (look_noted e.seen r)

  abbrev pub row_written : Entry S R → List (Row S R) → Option (Row S R) → List (Row S R)
  row_written e rows None = rows
  row_written e rows (Some r) = slice_set rows e.number (row_after e r)

  -- each seen record's read stamp is raised, and each put record takes value and stamp
  abbrev pub rows_after : List (Entry S R) → List (Row S R) → List (Row S R)
  rows_after [] rows = rows
  rows_after (e ∷ es) rows = rows_after es (row_written e rows (slice_get rows e.number))

-- a first write that is kept if there is one
abbrev pub first_kept : {S : Type 0} → S → Option S → Option S
first_kept s None = Some s
first_kept s (Some f) = Some f

module _ {S R : Type 0} (s : S) where
  abbrev pub first_written : Entry S R → List (Option S) → Option (Option S) → List (Option S)
  first_written e firsts None = firsts
  first_written e firsts (Some f) = cond e.put (slice_set firsts e.number (first_kept s f)) firsts

  -- each put record keeps the stamp as its first write if it has none
  abbrev pub firsts_after : List (Entry S R) → List (Option S) → List (Option S)
  firsts_after [] firsts = firsts
  firsts_after (e ∷ es) firsts = firsts_after es (first_written e firsts (slice_get firsts e.number))
