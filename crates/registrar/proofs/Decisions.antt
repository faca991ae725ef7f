-- What decide leaves, from what its steps leave in the tables.
use Rattle.std.proofs.Common.{◌≡◌, ℕ, suc, ◌+◌, ◌-◌, ◌*◌, ◌%◌, ◌<◌, ◌≤◌, min, Bool, true, false, not, leb, List, ◌∷◌, ◌++◌, length, get_or, take, drop, set, Some, None, Ok, Err, Option, sym, refl, ap, ◌∙◌, arith}
use Rattle.std.specs.List.{slice_get}
use Rattle.std.proofs.lemmas.Option.{slice_get_read}
use Rattle.std.proofs.lemmas.Bool.{le-leb, lt-leb}
use Rattle.kinds.specs.Stamps.{Kind}
use Rattle.model.specs.declared.entry.Entry.{Entry}
use Rattle.model.specs.declared.row.Row.{Row}
use Rattle.model.specs.declared.verdict.Outcome.{Outcome}
use Rattle.model.specs.declared.verdict.Verdict.{Verdict}
use Rattle.model.specs.declared.verdict.Verdict.TheVariants.{Accepted, Overtaken, Gone, NoPlace}
use Rattle.model.specs.declared.refusal.Refusal.TheVariants.{WrongTables, NoSuchRecord, NoneWaiting, JournalFull, OutcomesFull}
use Rattle.model.specs.Refusals.{refused_if}
use Rattle.model.specs.Tables.{laid, laid_from}
use Rattle.model.specs.Sheets.{beyond}
use Rattle.registrar.specs.declared.queue.Submission.{Submission}
use Rattle.registrar.specs.declared.registrar.Registrar.{Registrar}
use Rattle.registrar.specs.declared.journal.Head.{Head}
use Rattle.registrar.specs.Deciding.{Waiting, verdict_on, rows_after, firsts_after}
use Rattle.registrar.specs.Registry.{Registry, registry_sized, unless, waiting_at, waiting_from, queue_of, oldest_beyond, none_waits, entered, decided_own, by_verdict, decide_oldest, decide}
use Rattle.registrar.specs.Calls.{registry_of, settled_as, waiting_with, by_stamp, head_of}

-- what a verdict comes to where it has a stamp, and where it has none
module _ {S A : Type 0} where
  pub stamped : (v : Verdict S) {s : S} → Some s ≡ by_stamp v None (λ t. Some t) → (a : A) (f : S → A) → f s ≡ by_stamp v a f
  stamped (Accepted t) {s} e a f = let h : s ≡ t = cc in ap f h
  stamped Overtaken e a f = absurd (let z : ◌≡◌ {A = ℕ} 0 1 = cc in omega arith)
  stamped Gone e a f = absurd (let z : ◌≡◌ {A = ℕ} 0 1 = cc in omega arith)
  stamped NoPlace e a f = absurd (let z : ◌≡◌ {A = ℕ} 0 1 = cc in omega arith)

  pub unstamped : (v : Verdict S) → None ≡ by_stamp v None (λ t. Some t) → (a : A) (f : S → A) → a ≡ by_stamp v a f
  unstamped (Accepted t) e a f = absurd (let z : ◌≡◌ {A = ℕ} 0 1 = cc in omega arith)
  unstamped Overtaken e a f = refl
  unstamped Gone e a f = refl
  unstamped NoPlace e a f = refl

-- the numbers, counted round the ring without a sum that could pass its type
pub own_decided : (own : Registrar) (n : ℕ) {m jobs : ℕ} → m ≡ min own.waiting 16 → jobs ≡ own.jobs + n
    → record { records = own.records; cycle = own.cycle; tickets = own.tickets; oldest = (own.oldest % 16 + 1) % 16; waiting = m - 1; outcomes = own.outcomes + 1; jobs = jobs } ≡ decided_own own n
own_decided own n {m} {jobs} e j =
    let on : (own.oldest % 16 + 1) % 16 ≡ (own.oldest + 1) % 16 = omega arith in
    (λ i. record { records = own.records; cycle = own.cycle; tickets = own.tickets; oldest = on i; waiting = e i - 1; outcomes = own.outcomes + 1; jobs = j i })

module _ {S R : Type 0} (k : Kind S) (g : Registry S R) where
  -- by the list of those that wait
  decide_by : (ws : List (Waiting S R)) → queue_of g ≡ ws → registry_sized g ≡ true
      → decide k g ≡ unless (refused_if (oldest_beyond k g ws) NoSuchRecord (refused_if (none_waits k ws) NoneWaiting (refused_if (leb (length g.heads) g.own.jobs) JournalFull (refused_if (leb 32 g.own.outcomes) OutcomesFull None)))) g (decide_oldest k ws g)
  decide_by ws e z =
      ap (λ (b : Bool). unless (refused_if (not b) WrongTables (refused_if (oldest_beyond k g (queue_of g)) NoSuchRecord (refused_if (none_waits k (queue_of g)) NoneWaiting (refused_if (leb (length g.heads) g.own.jobs) JournalFull (refused_if (leb 32 g.own.outcomes) OutcomesFull None))))) g (decide_oldest k (queue_of g) g)) z
      ∙ ap (λ (us : List (Waiting S R)). unless (refused_if (oldest_beyond k g us) NoSuchRecord (refused_if (none_waits k us) NoneWaiting (refused_if (leb (length g.heads) g.own.jobs) JournalFull (refused_if (leb 32 g.own.outcomes) OutcomesFull None)))) g (decide_oldest k us g)) e

  -- each verdict leaves what its stamp brings, if it has one
  by_verdict_is : (w : Waiting S R) (v : Verdict S) → by_verdict k v g w
      ≡ registry_of (decided_own g.own (by_stamp v 0 (λ _. 1))) (by_stamp v g.rows (λ s. rows_after k.order s w.entries g.rows)) (by_stamp v g.firsts (λ s. firsts_after s w.entries g.firsts)) g.opening g.queue g.queued
      (set g.outcomes g.own.outcomes (record { ticket = w.ticket; verdict = v }))
      (by_stamp v g.heads (λ s. laid (entered k.order (head_of s w.ticket g.own.jobs (length w.entries)) (take g.own.jobs g.heads)) g.heads))
      (by_stamp v g.lines (λ s. laid_from (16 * g.own.jobs) w.entries g.lines))
  by_verdict_is w (Accepted s) = refl
  by_verdict_is w Overtaken = refl
  by_verdict_is w Gone = refl
  by_verdict_is w NoPlace = refl

-- The oldest submission, as it is read from its place.
module _ {S R : Type 0} (k : Kind S) (g : Registry S R) (q : Submission S) (entries : List (Entry S R)) (z : registry_sized g ≡ true) (some : g.own.waiting ≡ 0 → ⊥) (long : length g.queue ≡ 16) (here : q ≡ get_or g.queue (g.own.oldest % 16) q) (e : entries ≡ take q.count (take 16 (drop (16 * (g.own.oldest % 16)) g.queued))) where
  abbrev behind : List (Waiting S R)
  behind = waiting_from g (g.own.oldest + 1) (min g.own.waiting 16 - 1)

  oldest_first : queue_of g ≡ waiting_with q entries ∷ behind
  oldest_first =
      let n : min g.own.waiting 16 ≡ suc (min g.own.waiting 16 - 1) = omega arith in
      let there : slice_get g.queue (g.own.oldest % 16) ≡ Some q = slice_get_read g.queue 16 (g.own.oldest % 16) q (sym long) (omega arith) here in
      ap (waiting_from g g.own.oldest) n
      ∙ ap (λ (m : Option (Submission S)). waiting_at g (g.own.oldest % 16) m ++ behind) there
      ∙ ap (λ (es : List (Entry S R)). waiting_with q es ∷ behind) (sym e)

  pub decide_beyond : beyond g.own.records entries ≡ true → settled_as (Err NoSuchRecord) g ≡ decide k g
  decide_beyond far = sym (decide_by k g _ oldest_first z ∙ simp far)

  pub decide_full : beyond g.own.records entries ≡ false → length g.heads ≤ g.own.jobs → settled_as (Err JournalFull) g ≡ decide k g
  decide_full far f = sym (decide_by k g _ oldest_first z ∙ simp (far, le-leb _ _ f))

  pub decide_crowded : beyond g.own.records entries ≡ false → g.own.jobs < length g.heads → 32 ≤ g.own.outcomes → settled_as (Err OutcomesFull) g ≡ decide k g
  decide_crowded far f c = sym (decide_by k g _ oldest_first z ∙ simp (far, lt-leb _ _ f, le-leb _ _ c))

  pub decide_whole : beyond g.own.records entries ≡ false → g.own.jobs < length g.heads → g.own.outcomes < 32
      → {v : Verdict S} → v ≡ verdict_on k g.rows (waiting_with q entries)
      → {own : Registrar} → {n : ℕ} → n ≡ by_stamp v 0 (λ _. 1) → own ≡ decided_own g.own n
      → {rows : List (Row S R)} → rows ≡ by_stamp v g.rows (λ s. rows_after k.order s entries g.rows)
      → {firsts : List (Option S)} → firsts ≡ by_stamp v g.firsts (λ s. firsts_after s entries g.firsts)
      → {heads : List (Head S)} → heads ≡ by_stamp v g.heads (λ s. laid (entered k.order (head_of s q.ticket g.own.jobs (length entries)) (take g.own.jobs g.heads)) g.heads)
      → {lines : List (Entry S R)} → lines ≡ by_stamp v g.lines (λ s. laid_from (16 * g.own.jobs) entries g.lines)
      → {outcomes : List (Outcome S)} → outcomes ≡ set g.outcomes g.own.outcomes (record { ticket = q.ticket; verdict = v })
      → settled_as (Ok (record { ticket = q.ticket; verdict = v })) (registry_of own rows firsts g.opening g.queue g.queued outcomes heads lines) ≡ decide k g
  decide_whole far f c {v} ve ne oe re fe he le ue =
      (λ i. settled_as (Ok (record { ticket = q.ticket; verdict = v })) (registry_of ((oe ∙ ap (decided_own g.own) ne) i) (re i) (fe i) g.opening g.queue g.queued (ue i) (he i) (le i)))
      ∙ ap (settled_as (Ok (record { ticket = q.ticket; verdict = v }))) (sym (by_verdict_is k g (waiting_with q entries) v))
      ∙ ap (λ (u : Verdict S). settled_as (Ok (record { ticket = q.ticket; verdict = u })) (by_verdict k u g (waiting_with q entries))) ve
      ∙ sym (decide_by k g _ oldest_first z ∙ simp (far, lt-leb _ _ f, lt-leb _ _ c))
