-- The daybook: what was looked at, put and accepted, made of the calls' arguments and answers alone.
use Rattle.std.specs.Prelude.{ℕ, ◌*◌, Bool, true, false, cond, ◌||◌, List, [], ◌∷◌, ◌++◌, map, take, drop, Some, None, Option, ◌==◌}
use Rattle.model.specs.declared.entry.Entry.{Entry}
use Rattle.registrar.specs.declared.journal.Head.{Head}
use Rattle.model.specs.declared.verdict.Verdict.{Verdict}
use Rattle.model.specs.declared.verdict.Verdict.TheVariants.{Accepted, Overtaken, Gone, NoPlace}
use Rattle.model.specs.Rows.{Stood}
use Rattle.registrar.specs.Registry.{Registry}

-- a noted look: the record, and the value and write stamp that it showed
pub record Look (S R : Type 0) : Type 0 where
  pub number : ℕ
  pub saw : Stood S R

pub record Put (R : Type 0) : Type 0 where
  pub number : ℕ
  pub value : R

-- an accepted job, as journal and daybook keep it
pub record AcceptedJob (S R : Type 0) : Type 0 where
  pub stamp : S
  pub ticket : ℕ
  pub looks : List (Look S R)
  pub puts : List (Put R)

-- a line of a leaf: one record, its noted look and its put, if any
pub record Line (S R : Type 0) : Type 0 where
  pub number : ℕ
  pub look : Option (Stood S R)
  pub put : Option R

abbrev pub when : {A : Type 0} → Bool → A → Option A
when true a = Some a
when false a = None

module _ {S R : Type 0} where
  abbrev pub look_first : ℕ → Option (Stood S R) → List (Look S R) → List (Look S R)
  look_first x None ls = ls
  look_first x (Some w) ls = record { number = x; saw = w } ∷ ls

module _ {R : Type 0} where
  abbrev pub put_first : ℕ → Option R → List (Put R) → List (Put R)
  put_first x None ps = ps
  put_first x (Some v) ps = record { number = x; value = v } ∷ ps

module _ {S R : Type 0} where
  -- the noted looks, and the puts, each in line order
  abbrev pub looks_of : List (Line S R) → List (Look S R)
  looks_of [] = []
  looks_of (l ∷ ls) = look_first l.number l.look (looks_of ls)

  abbrev pub puts_of : List (Line S R) → List (Put R)
  puts_of [] = []
  puts_of (l ∷ ls) = put_first l.number l.put (puts_of ls)

  abbrev pub accepted_job : S → ℕ → List (Line S R) → AcceptedJob S R
  accepted_job s ticket leaf = record { stamp = s; ticket = ticket; looks = looks_of leaf; puts = puts_of leaf }

  -- an entry as a line; entries in sheet order are lines in line order
  abbrev pub line_of : Entry S R → Line S R
  line_of e = record { number = e.number; look = when e.seen (record { value = e.saw; stamp = e.noted }); put = when e.put e.wrote }

  -- the jobs that the journal keeps, in its order
  abbrev pub job_at : List (Entry S R) → Head S → AcceptedJob S R
  job_at lines h = accepted_job h.stamp h.ticket (map line_of (take h.count (take 16 (drop (16 * h.place) lines))))

  abbrev pub journal_of : Registry S R → List (AcceptedJob S R)
  journal_of g = map (job_at g.lines) (take g.own.jobs g.heads)

-- a leaf that waits under its ticket
pub record LaidBy (S R : Type 0) : Type 0 where
  pub ticket : ℕ
  pub leaf : List (Line S R)

-- the leaves of the jobs, those that wait, and the jobs accepted, in the order of acceptance
pub record Daybook (S R : Type 0) : Type 0 where
  pub leaves : ℕ → List (Line S R)
  pub waiting : List (LaidBy S R)
  pub accepted : List (AcceptedJob S R)

abbrev pub blank : {S R : Type 0} → Daybook S R
blank = record { leaves = λ j. []; waiting = []; accepted = [] }

-- a table of anything, with another content at one place
abbrev pub changed : {A : Type 0} → (ℕ → A) → ℕ → A → ℕ → A
changed f j a n = cond (j == n) a (f n)

module _ {S R : Type 0} where
  abbrev pub with_leaf : Daybook S R → ℕ → List (Line S R) → Daybook S R
  with_leaf b j leaf = record { leaves = changed b.leaves j leaf; waiting = b.waiting; accepted = b.accepted }

  abbrev pub has_line : ℕ → List (Line S R) → Bool
  has_line x [] = false
  has_line x (l ∷ ls) = x == l.number || has_line x ls

  -- a look at a record without a line is the noted look
  abbrev pub line_looked : Bool → ℕ → Stood S R → List (Line S R) → List (Line S R)
  line_looked true x w leaf = leaf
  line_looked false x w leaf = leaf ++ (record { number = x; look = Some w; put = None } ∷ [])

  -- a put writes its value in place of any put before
  abbrev pub line_put : ℕ → R → List (Line S R) → List (Line S R)
  line_put x v [] = record { number = x; look = None; put = Some v } ∷ []
  line_put x v (l ∷ ls) = cond (x == l.number) (record { number = l.number; look = l.look; put = Some v } ∷ ls) (l ∷ line_put x v ls)

  abbrev pub laid_behind : Daybook S R → ℕ → ℕ → Daybook S R
  laid_behind b j ticket = record { leaves = b.leaves; waiting = b.waiting ++ (record { ticket = ticket; leaf = b.leaves j } ∷ []); accepted = b.accepted }

  -- an accepted leaf stays as a job; others go
  abbrev pub stays : Verdict S → LaidBy S R → List (AcceptedJob S R)
  stays (Accepted s) l = accepted_job s l.ticket l.leaf ∷ []
  stays Overtaken l = []
  stays Gone l = []
  stays NoPlace l = []

  -- decide takes the first leaf that waits
  abbrev pub first_taken : Daybook S R → List (LaidBy S R) → Verdict S → Daybook S R
  first_taken b [] v = b
  first_taken b (l ∷ ls) v = record { leaves = b.leaves; waiting = ls; accepted = b.accepted ++ stays v l }
