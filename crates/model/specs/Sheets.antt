-- Sheets: the entries of a job, by record number.
use Rattle.std.specs.Prelude.{ℕ, Bool, true, false, cond, not, List, [], ◌∷◌, Some, None, Option, ◌==◌, nat_lt}
use Rattle.std.specs.List.{list_any}
use Rattle.model.specs.declared.entry.Entry.{Entry}
use Rattle.model.specs.declared.image.ImageRow.{ImageRow}

module _ {S R : Type 0} where
  -- the entry of a record; where it stands twice, the first
  abbrev pub find : ℕ → List (Entry S R) → Option (Entry S R)
  find x [] = None
  find x (e ∷ es) = cond (x == e.number) (Some e) (find x es)

  -- a noted look: seen and open, with the row's write stamp
  abbrev pub looked : ℕ → ImageRow S R → Entry S R
  looked x row = record { number = x; noted = row.write; saw = row.value; wrote = row.value; seen = true; put = false; opened = true }

  -- a put of a record not seen: put only
  abbrev pub put_unseen : ℕ → ImageRow S R → R → Entry S R
  put_unseen x row v = record { number = x; noted = row.write; saw = v; wrote = v; seen = false; put = true; opened = false }

  abbrev pub with_value : R → Entry S R → Entry S R
  with_value v e = record { number = e.number; noted = e.noted; saw = e.saw; wrote = v; seen = e.seen; put = true; opened = e.opened }

  -- the entry of a record, put with a value
  abbrev pub put_on : ℕ → R → List (Entry S R) → List (Entry S R)
  put_on x v [] = []
  put_on x v (e ∷ es) = cond (x == e.number) (with_value v e ∷ es) (e ∷ put_on x v es)

  -- what a look at a record on the sheet answers: the job's own value, or the value first seen
  abbrev pub own_value : Entry S R → R
  own_value e = cond e.put e.wrote e.saw

  abbrev pub closed : Entry S R → Entry S R
  closed e = record { number = e.number; noted = e.noted; saw = e.saw; wrote = e.wrote; seen = e.seen; put = e.put; opened = false }

  -- some record number is not below n
  abbrev pub beyond : ℕ → List (Entry S R) → Bool
  beyond n es = list_any (λ e. not (nat_lt e.number n)) es
