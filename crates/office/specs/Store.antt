-- A registrar's tables as their owner has them.
use Rattle.std.specs.Prelude.{ℕ, ◌*◌, min, false, None, []}
use Rattle.kinds.specs.Stamps.{Order}
use Rattle.model.specs.declared.entry.Entry.{Entry}
use Rattle.model.specs.declared.row.Row.{Row}
use Rattle.model.specs.declared.verdict.Outcome.{Outcome}
use Rattle.model.specs.declared.verdict.Verdict.TheVariants.{NoPlace}
use Rattle.registrar.specs.declared.queue.Submission.{Submission}
use Rattle.registrar.specs.declared.registrar.Registrar.{Registrar}
use Rattle.registrar.specs.declared.journal.Head.{Head}
use Rattle.registrar.specs.Registry.{Registry}
use Rattle.registrar.specs.Calls.{registry_of, no_numbers}
use Rattle.office.specs.declared.store.Store.{Store}

-- the lines of a journal: 16 to each place, as far as a number of places goes
abbrev pub lines_for : ℕ → ℕ
lines_for journal = min (journal * 16) 18446744073709551615

-- a free place of a table of outcomes
abbrev pub free_outcome : {S : Type 0} → Outcome S
free_outcome = record { ticket = 0; verdict = NoPlace }

module _ {S R : Type 0} where
  -- the registry of a registrar's numbers and the tables that its office owns
  abbrev pub registry_kept : Registrar → Store S R → Registry S R
  registry_kept own s = registry_of own s.rows.items s.firsts.items s.opening.items s.queue.items s.queued.items s.outcomes.items s.heads.items s.lines.items

  -- tables with no place
  abbrev pub no_tables : Registry S R
  no_tables = registry_of no_numbers [] [] [] [] [] [] [] []

module _ {S R : Type 0} (o : Order S) where
  -- an entry in a free place
  abbrev pub blank_entry : R → Entry S R
  blank_entry v = record { number = 0; noted = o.least; saw = v; wrote = v; seen = false; put = false; opened = false }

  -- a row that is not founded yet
  abbrev pub unfounded_row : R → Row S R
  unfounded_row v = record { value = v; read = o.least; count = 1; one = o.least; two = o.least; three = o.least; four = o.least }

module _ {S : Type 0} (o : Order S) where
  -- a free place of the queue, and one of the journal
  abbrev pub free_submission : Submission S
  free_submission = record { ticket = 0; lower = o.least; upper = None; count = 0 }

  abbrev pub free_head : Head S
  free_head = record { stamp = o.least; ticket = 0; place = 0; count = 0 }
