-- The registrar with its tables, and what found, submit, decide, publish, settle and waive do.
use Rattle.std.specs.Prelude.{ℕ, zero, suc, ◌+◌, ◌-◌, ◌*◌, ◌%◌, min, Bool, true, false, cond, not, ◌&&◌, List, [], ◌∷◌, ◌++◌, length, take, drop, replicate, fold, Some, None, Ok, Err, Option, Result, ◌==◌, nat_le, slice_set}
use Rattle.std.specs.List.{slice_get, insert}
use Rattle.kinds.specs.Stamps.{Order, Kind}
use Rattle.model.specs.declared.entry.Entry.{Entry}
use Rattle.model.specs.declared.row.Row.{Row}
use Rattle.model.specs.declared.image.ImageRow.{ImageRow}
use Rattle.model.specs.declared.verdict.Verdict.{Verdict}
use Rattle.model.specs.declared.verdict.Verdict.TheVariants.{Accepted, Overtaken, Gone, NoPlace}
use Rattle.model.specs.declared.verdict.Outcome.{Outcome}
use Rattle.registrar.specs.declared.queue.Submission.{Submission}
use Rattle.registrar.specs.declared.registrar.Registrar.{Registrar}
use Rattle.registrar.specs.declared.journal.Head.{Head}
use Rattle.model.specs.declared.refusal.Refusal.{Refusal}
use Rattle.model.specs.declared.refusal.Refusal.TheVariants.{WrongTables, JobShut, NoSuchRecord, QueueFull, NoneWaiting, JournalFull, OutcomesFull, NotInImage, CountEnded}
use Rattle.model.specs.Refusals.{refused_if}
use Rattle.model.specs.Tables.{lawful_size, sized, laid, laid_from}
use Rattle.model.specs.Rows.{founded_row, shown_row}
use Rattle.model.specs.Sheets.{beyond}
use Rattle.station.specs.Station.{Image, image_sized, Station, work_of, is_shut}
use Rattle.registrar.specs.Deciding.{Waiting, verdict_on, rows_after, firsts_after}

-- the registrar's numbers and its tables: rows, first writes and opening values by record; 16 submissions with
-- 16 entries each; 32 outcomes; the journal's heads with 16 lines each
pub record Registry (S R : Type 0) : Type 0 where
  pub own : Registrar
  pub rows : List (Row S R)
  pub firsts : List (Option S)
  pub opening : List R
  pub queue : List (Submission S)
  pub queued : List (Entry S R)
  pub outcomes : List (Outcome S)
  pub heads : List (Head S)
  pub lines : List (Entry S R)

module _ {S R : Type 0} where
  -- every table has its length, for a register of n records
  abbrev pub tables_sized : ℕ → Registry S R → Bool
  tables_sized n g =
      lawful_size n && (sized g.rows n && (sized g.firsts n && (sized g.opening n
      && (sized g.queue 16 && (sized g.queued 256 && (sized g.outcomes 32
      && ((nat_le 1 (length g.heads) && nat_le (length g.heads) 4096) && sized g.lines (16 * length g.heads))))))))

  abbrev pub registry_sized : Registry S R → Bool
  registry_sized g = tables_sized g.own.records g

-- what a call answers, and the registry that it leaves
pub record Settled (S R A : Type 0) : Type 0 where
  pub answer : Result A Refusal
  pub registry : Registry S R

module _ {S R A : Type 0} where
  abbrev pub refuse : Refusal → Registry S R → Settled S R A
  refuse r g = record { answer = Err r; registry = g }

  abbrev pub unless : Option Refusal → Registry S R → Settled S R A → Settled S R A
  unless None g a = a
  unless (Some r) g a = refuse r g

-- Found: the opening values entered and copied, every read stamp and only version least, no first write, and all counts 0.
module _ {S R : Type 0} (o : Order S) where
  abbrev pub founded_rows : List R → List (Row S R) → List (Row S R)
  founded_rows [] rows = []
  founded_rows (v ∷ vs) [] = []
  founded_rows (v ∷ vs) (r ∷ rows) = founded_row o v r ∷ founded_rows vs rows

  abbrev pub founded : List R → Registry S R → Registry S R
  founded values g =
      record {
        own = record { records = length values; cycle = 0; tickets = 0; oldest = 0; waiting = 0; outcomes = 0; jobs = 0 };
        rows = founded_rows values g.rows;
        firsts = replicate (length values) None;
        opening = values;
        queue = g.queue;
        queued = g.queued;
        outcomes = g.outcomes;
        heads = g.heads;
        lines = g.lines;
      }

  abbrev pub found : List R → Registry S R → Settled S R (Unit {0})
  found values g =
      unless (refused_if (not (tables_sized (length values) g)) WrongTables None) g (record { answer = Ok tt; registry = founded values g })

-- The queue: a ring of 16 places, of which `waiting` count, from the place `oldest` on.
module _ {S R : Type 0} where
  abbrev pub queued_at : Registry S R → ℕ → List (Entry S R)
  queued_at g place = take 16 (drop (16 * place) g.queued)

  abbrev pub waiting_at : Registry S R → ℕ → Option (Submission S) → List (Waiting S R)
  waiting_at g place None = []
  waiting_at g place (Some q) =
      record { ticket = q.ticket; lower = q.lower; upper = q.upper; entries = take q.count (queued_at g place) } ∷ []

  -- n submissions from a place on
  abbrev pub waiting_from : Registry S R → ℕ → ℕ → List (Waiting S R)
  waiting_from g place zero = []
  waiting_from g place (suc n) = waiting_at g (place % 16) (slice_get g.queue (place % 16)) ++ waiting_from g (place + 1) n

  -- the submissions that wait, the oldest first
  abbrev pub queue_of : Registry S R → List (Waiting S R)
  queue_of g = waiting_from g g.own.oldest (min g.own.waiting 16)

  abbrev pub with_own : Registry S R → Registrar → Registry S R
  with_own g own = record { own = own; rows = g.rows; firsts = g.firsts; opening = g.opening; queue = g.queue; queued = g.queued; outcomes = g.outcomes; heads = g.heads; lines = g.lines }

-- Submit: the live job to the end of the queue, under the next ticket.
module _ {S R : Type 0} where
  abbrev pub submit_refused : Registry S R → Station S R → Option Refusal
  submit_refused g t =
      refused_if (not (registry_sized g && sized t.sheet 16)) WrongTables
      (refused_if (is_shut t.job.standing) JobShut
      (refused_if (beyond g.own.records (work_of t).entries) NoSuchRecord
      (refused_if (nat_le 16 g.own.waiting) QueueFull
      (refused_if (nat_le 4294967295 g.own.tickets) CountEnded None))))

  abbrev pub next_place : Registry S R → ℕ
  next_place g = (g.own.oldest + g.own.waiting) % 16

  abbrev pub submitted : Registry S R → Station S R → Registry S R
  submitted g t =
      record {
        own = record {
          records = g.own.records;
          cycle = g.own.cycle;
          tickets = g.own.tickets + 1;
          oldest = g.own.oldest;
          waiting = g.own.waiting + 1;
          outcomes = g.own.outcomes;
          jobs = g.own.jobs;
        };
        rows = g.rows;
        firsts = g.firsts;
        opening = g.opening;
        queue = slice_set g.queue (next_place g) (record { ticket = g.own.tickets + 1; lower = t.job.lower; upper = t.job.upper; count = length (work_of t).entries });
        queued = laid_from (16 * next_place g) (work_of t).entries g.queued;
        outcomes = g.outcomes;
        heads = g.heads;
        lines = g.lines;
      }

  -- the answer is the ticket's number
  abbrev pub submit : Registry S R → Station S R → Settled S R ℕ
  submit g t = unless (submit_refused g t) g (record { answer = Ok (g.own.tickets + 1); registry = submitted g t })

-- the steps in which a place in the journal is sought: from half the longest journal down to 1
abbrev pub steps : List ℕ
steps = 2048 ∷ 1024 ∷ 512 ∷ 256 ∷ 128 ∷ 64 ∷ 32 ∷ 16 ∷ 8 ∷ 4 ∷ 2 ∷ 1 ∷ []

-- The journal: in final order, each job's lines at the place where they were first written.
module _ {S : Type 0} (o : Order S) where
  -- whether a job is there, and its stamp is not after the given one
  abbrev pub not_after : S → Option (Head S) → Bool
  not_after s None = false
  not_after s (Some j) = not (o.before s j.stamp)

  -- whether so many jobs are there, and the last of them is not after
  abbrev pub reached : S → List (Head S) → ℕ → Bool
  reached s js zero = false
  reached s js (suc n) = not_after s (slice_get js n)

  -- a step is taken where it reaches a job that is not after
  abbrev pub stepped : S → List (Head S) → ℕ → ℕ → ℕ
  stepped s js place step = cond (reached s js (place + step)) (place + step) place

  -- how many jobs are ahead of a stamp, by steps of half the length each: in final order, all that are not after it
  abbrev pub ahead : S → List (Head S) → ℕ
  ahead s js = fold (stepped s js) 0 steps

  -- behind those ahead of it; those behind it move up by one
  abbrev pub entered : Head S → List (Head S) → List (Head S)
  entered h js = insert js (ahead h.stamp js) h

-- the queue without its oldest, and one outcome more
abbrev pub decided_own : Registrar → ℕ → Registrar
decided_own r accepted =
    record {
      records = r.records;
      cycle = r.cycle;
      tickets = r.tickets;
      oldest = (r.oldest + 1) % 16;
      waiting = min r.waiting 16 - 1;
      outcomes = r.outcomes + 1;
      jobs = r.jobs + accepted;
    }

-- Decide: the oldest submission.
module _ {S R : Type 0} (k : Kind S) where
  abbrev pub oldest_beyond : Registry S R → List (Waiting S R) → Bool
  oldest_beyond g [] = false
  oldest_beyond g (w ∷ ws) = beyond g.own.records w.entries

  abbrev pub none_waits : List (Waiting S R) → Bool
  none_waits [] = true
  none_waits (w ∷ ws) = false

  abbrev pub decide_refused : Registry S R → Option Refusal
  decide_refused g =
      refused_if (not (registry_sized g)) WrongTables
      (refused_if (oldest_beyond g (queue_of g)) NoSuchRecord
      (refused_if (none_waits (queue_of g)) NoneWaiting
      (refused_if (nat_le (length g.heads) g.own.jobs) JournalFull
      (refused_if (nat_le 32 g.own.outcomes) OutcomesFull None))))

  abbrev pub with_outcome : Registry S R → Waiting S R → Verdict S → List (Outcome S)
  with_outcome g w v = slice_set g.outcomes g.own.outcomes (record { ticket = w.ticket; verdict = v })

  abbrev pub passed_over : Registry S R → Waiting S R → Verdict S → Registry S R
  passed_over g w v =
      record {
        own = decided_own g.own 0;
        rows = g.rows;
        firsts = g.firsts;
        opening = g.opening;
        queue = g.queue;
        queued = g.queued;
        outcomes = with_outcome g w v;
        heads = g.heads;
        lines = g.lines;
      }

  abbrev pub taken_up : Registry S R → Waiting S R → S → Registry S R
  taken_up g w s =
      record {
        own = decided_own g.own 1;
        rows = rows_after k.order s w.entries g.rows;
        firsts = firsts_after s w.entries g.firsts;
        opening = g.opening;
        queue = g.queue;
        queued = g.queued;
        outcomes = with_outcome g w (Accepted s);
        heads = laid (entered k.order (record { stamp = s; ticket = w.ticket; place = g.own.jobs; count = length w.entries }) (take g.own.jobs g.heads)) g.heads;
        lines = laid_from (16 * g.own.jobs) w.entries g.lines;
      }

  abbrev pub by_verdict : Verdict S → Registry S R → Waiting S R → Registry S R
  by_verdict (Accepted s) g w = taken_up g w s
  by_verdict Overtaken g w = passed_over g w Overtaken
  by_verdict Gone g w = passed_over g w Gone
  by_verdict NoPlace g w = passed_over g w NoPlace

  abbrev pub decide_oldest : List (Waiting S R) → Registry S R → Settled S R (Outcome S)
  decide_oldest [] g = refuse NoneWaiting g
  decide_oldest (w ∷ ws) g =
      record { answer = Ok (record { ticket = w.ticket; verdict = verdict_on k g.rows w }); registry = by_verdict (verdict_on k g.rows w) g w }

  abbrev pub decide : Registry S R → Settled S R (Outcome S)
  decide g = unless (decide_refused g) g (decide_oldest (queue_of g) g)

-- Publish: the next image, and the first writes and outcomes cleared.
pub record Published (S R : Type 0) : Type 0 where
  pub answer : Result ℕ Refusal
  pub registry : Registry S R
  pub image : Image S R

module _ {S R : Type 0} where
  abbrev pub shown_rows : List (Row S R) → List (Option S) → List (ImageRow S R)
  shown_rows [] firsts = []
  shown_rows (r ∷ rows) [] = []
  shown_rows (r ∷ rows) (f ∷ firsts) = shown_row r f ∷ shown_rows rows firsts

  abbrev pub publish_refused : Registry S R → Image S R → Option Refusal
  publish_refused g i =
      refused_if (not (registry_sized g && (sized i.rows g.own.records && sized i.outcomes 32))) WrongTables
      (refused_if (nat_le 4294967295 g.own.cycle) CountEnded None)

  abbrev pub outcomes_of : Registry S R → List (Outcome S)
  outcomes_of g = take g.own.outcomes g.outcomes

  abbrev pub image_of : Registry S R → Image S R → Image S R
  image_of g i =
      record {
        records = g.own.records;
        number = g.own.cycle + 1;
        rows = shown_rows g.rows g.firsts;
        outcomes = laid (outcomes_of g) i.outcomes;
        count = length (outcomes_of g);
      }

  abbrev pub cleared : Registry S R → Registry S R
  cleared g =
      record {
        own = record {
          records = g.own.records;
          cycle = g.own.cycle + 1;
          tickets = g.own.tickets;
          oldest = g.own.oldest;
          waiting = g.own.waiting;
          outcomes = 0;
          jobs = g.own.jobs;
        };
        rows = g.rows;
        firsts = replicate (length g.firsts) None;
        opening = g.opening;
        queue = g.queue;
        queued = g.queued;
        outcomes = g.outcomes;
        heads = g.heads;
        lines = g.lines;
      }

  abbrev pub published_unless : Option Refusal → Registry S R → Image S R → Published S R
  published_unless (Some r) g i = record { answer = Err r; registry = g; image = i }
  published_unless None g i = record { answer = Ok (g.own.cycle + 1); registry = cleared g; image = image_of g i }

  -- the answer is the image's number
  abbrev pub publish : Registry S R → Image S R → Published S R
  publish g i = published_unless (publish_refused g i) g i

-- Settle: the ticket's verdict in an image. A refusal hands the ticket back.
module _ {S : Type 0} where
  abbrev pub verdict_in : ℕ → List (Outcome S) → Option (Verdict S)
  verdict_in ticket [] = None
  verdict_in ticket (c ∷ cs) = cond (ticket == c.ticket) (Some c.verdict) (verdict_in ticket cs)

  abbrev pub found_or : Option (Verdict S) → Result (Verdict S) Refusal
  found_or None = Err NotInImage
  found_or (Some v) = Ok v

module _ {S R : Type 0} where
  abbrev pub settle : ℕ → Image S R → Result (Verdict S) Refusal
  settle ticket i = cond (image_sized i) (found_or (verdict_in ticket (take i.count i.outcomes))) (Err WrongTables)
