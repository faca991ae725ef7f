-- What each call leaves, from what its steps leave in the tables.
use Rattle.std.proofs.Common.{◌≡◌, ℕ, ◌+◌, ◌*◌, ◌%◌, ◌<◌, ◌≤◌, true, false, ◌&&◌, List, length, take, set, replicate, None, Some, Ok, Err, Option, Result, sym, refl, ap, ◌∙◌, arith}
use Rattle.std.proofs.lemmas.Bool.{and_parts, le-leb, lt-leb, eq-eqb, ne_eqb}
use Rattle.kinds.specs.Stamps.{Order}
use Rattle.model.specs.declared.row.Row.{Row}
use Rattle.model.specs.declared.image.ImageRow.{ImageRow}
use Rattle.model.specs.declared.verdict.Outcome.{Outcome}
use Rattle.model.specs.declared.refusal.Refusal.{Refusal}
use Rattle.model.specs.declared.refusal.Refusal.TheVariants.{WrongTables, QueueFull, CountEnded}
use Rattle.model.specs.Tables.{lawful_size, sized, laid_from}
use Rattle.model.specs.declared.entry.Entry.{Entry}
use Rattle.model.specs.Sheets.{beyond}
use Rattle.station.specs.declared.job.Job.{Job}
use Rattle.station.specs.Station.{Image, is_shut}
use Rattle.station.specs.Heard.{on_unless}
use Rattle.registrar.specs.declared.queue.Submission.{Submission}
use Rattle.registrar.specs.declared.ticket.Ticket.{Ticket}
use Rattle.registrar.specs.declared.registrar.Registrar.{Registrar}
use Rattle.registrar.specs.Registry.{Registry, Settled, unless, submit_refused, submitted, registry_sized, tables_sized, founded_rows, found, shown_rows, publish, submit}
use Rattle.registrar.specs.Calls.{registry_of, no_numbers, founded_as, published_as, image_with, handed_as, handed_in, station_of}

-- what a clone of none is, where no value is one
pub only_none : {A : Type 0} (P : Option A → Type 0) → ((x : A) → P (Some x) → ⊥) → (o : Option A) → P o → o ≡ None
only_none P missing None h = refl
only_none P missing (Some x) h = absurd (missing x h)

module _ {S R : Type 0} where
  pub found_whole : (o : Order S) (values : List R) (g : Registry S R) → tables_sized (length values) g ≡ true
      → {rows : List (Row S R)} {firsts : List (Option S)} {opening : List R}
      → rows ≡ founded_rows o values g.rows → firsts ≡ replicate (length values) None → opening ≡ values
      → founded_as (Ok (record { records = length values; cycle = 0; tickets = 0; oldest = 0; waiting = 0; outcomes = 0; jobs = 0 })) (registry_of no_numbers rows firsts opening g.queue g.queued g.outcomes g.heads g.lines)
      ≡ found o values g
  found_whole o values g fits a b c =
      (λ i. founded_as (Ok (record { records = length values; cycle = 0; tickets = 0; oldest = 0; waiting = 0; outcomes = 0; jobs = 0 })) (registry_of no_numbers (a i) (b i) (c i) g.queue g.queued g.outcomes g.heads g.lines))
      ∙ sym (simp fits)

-- Publish: refused, or the image and what is cleared.
module _ {S R : Type 0} (g : Registry S R) (i : Image S R) where
  abbrev own_after : Registrar
  own_after = record { records = g.own.records; cycle = g.own.cycle + 1; tickets = g.own.tickets; oldest = g.own.oldest; waiting = g.own.waiting; outcomes = 0; jobs = g.own.jobs }

  pub publish_misfit : registry_sized g ≡ true → (lawful_size g.own.records && (sized i.rows g.own.records && sized i.outcomes 32)) ≡ false → published_as (Err WrongTables) g i ≡ publish g i
  publish_misfit h m = let a = rw (and_parts (lawful_size g.own.records) _ h).0 at m in simp (h, a)

  pub publish_ended : registry_sized g ≡ true → (lawful_size g.own.records && (sized i.rows g.own.records && sized i.outcomes 32)) ≡ true → 4294967295 ≤ g.own.cycle → published_as (Err CountEnded) g i ≡ publish g i
  publish_ended h m e = let a = (and_parts (lawful_size g.own.records) _ m).1 in simp (h, a, le-leb _ _ e)

  pub publish_whole : registry_sized g ≡ true → (lawful_size g.own.records && (sized i.rows g.own.records && sized i.outcomes 32)) ≡ true → g.own.cycle < 4294967295
      → {shown : List (ImageRow S R)} {firsts : List (Option S)} {news outcomes : List (Outcome S)}
      → shown ≡ shown_rows g.rows g.firsts → firsts ≡ replicate (length g.firsts) None → news ≡ take g.own.outcomes g.outcomes → outcomes ≡ laid_from 0 news i.outcomes
      → published_as (Ok (g.own.cycle + 1)) (registry_of own_after g.rows firsts g.opening g.queue g.queued g.outcomes g.heads g.lines) (image_with (record { records = g.own.records; number = g.own.cycle + 1; count = length news }) shown outcomes)
      ≡ publish g i
  publish_whole h m l {shown} {firsts} {news} {outcomes} a b n c =
      let f = (and_parts (lawful_size g.own.records) _ m).1 in
      (λ j. published_as (Ok (g.own.cycle + 1)) (registry_of own_after g.rows (b j) g.opening g.queue g.queued g.outcomes g.heads g.lines) (image_with (record { records = g.own.records; number = g.own.cycle + 1; count = length (n j) }) (a j) ((c ∙ ap (λ t. laid_from 0 t i.outcomes) n) j)))
      ∙ sym (simp (h, f, lt-leb _ _ l))

-- Submit: refused, or the job at the end of the queue.
module _ {S R : Type 0} (g : Registry S R) (j : Job S) (sheet : List (Entry S R)) where
  abbrev told : Result (Unit {0}) Refusal
  told = on_unless (submit_refused g (station_of j sheet))

  module _ (z : registry_sized g ≡ true) where
    pub submit_sheet : (length sheet ≡ 16 → ⊥) → Err WrongTables ≡ told
    submit_sheet n = simp (z, ne_eqb _ _ n)

    module _ (n : length sheet ≡ 16) (live : is_shut j.standing ≡ false) {entries : List (Entry S R)} (e : entries ≡ take j.count sheet) (far : beyond g.own.records entries ≡ false) where
      pub submit_full : 16 ≤ g.own.waiting → Err QueueFull ≡ told
      submit_full w = let near : beyond g.own.records (take j.count sheet) ≡ false = rw e at far in simp (z, eq-eqb _ _ n, live, near, le-leb _ _ w)

      pub submit_ended : g.own.waiting < 16 → 4294967295 ≤ g.own.tickets → Err CountEnded ≡ told
      submit_ended w t = let near : beyond g.own.records (take j.count sheet) ≡ false = rw e at far in simp (z, eq-eqb _ _ n, live, near, lt-leb _ _ w, le-leb _ _ t)

      pub submit_ready : g.own.waiting < 16 → g.own.tickets < 4294967295 → Ok tt ≡ told
      submit_ready w t = let near : beyond g.own.records (take j.count sheet) ≡ false = rw e at far in simp (z, eq-eqb _ _ n, live, near, lt-leb _ _ w, lt-leb _ _ t)

  abbrev own_submitted : Registrar
  own_submitted = record { records = g.own.records; cycle = g.own.cycle; tickets = g.own.tickets + 1; oldest = g.own.oldest; waiting = g.own.waiting + 1; outcomes = g.own.outcomes; jobs = g.own.jobs }

  abbrev submission_of : List (Entry S R) → Submission S
  submission_of es = record { ticket = g.own.tickets + 1; lower = j.lower; upper = j.upper; count = length es }

  pub submit_stops : (r : Refusal) → Err r ≡ told → handed_as (Err (r, j)) g ≡ handed_in j (submit g (station_of j sheet))
  submit_stops r h = by_refusal (submit_refused g (station_of j sheet)) h
    where
      by_refusal : (o : Option Refusal) → Err r ≡ on_unless o → handed_as (Err (r, j)) g ≡ handed_in j (unless o g (record { answer = Ok (g.own.tickets + 1); registry = submitted g (station_of j sheet) }))
      by_refusal None e = let q : ◌≡◌ {A = ℕ} 0 1 = cc in absurd (omega arith)
      by_refusal (Some f) e = let q : r ≡ f = cc in ap (λ x. handed_as (Err (x, j)) g) q

  goes_on : (o : Option Refusal) (s : Settled S R ℕ) → Ok tt ≡ on_unless o → s ≡ unless o g s
  goes_on None s e = refl
  goes_on (Some f) s e = let q : ◌≡◌ {A = ℕ} 0 1 = cc in absurd (omega arith)

  pub submit_whole : Ok tt ≡ told
      → {entries : List (Entry S R)} → entries ≡ take j.count sheet
      → {ticket : Ticket} → ticket.number ≡ g.own.tickets + 1 → {place : ℕ} → place ≡ (g.own.oldest + g.own.waiting) % 16
      → {queue : List (Submission S)} → queue ≡ set g.queue place (submission_of entries) → {queued : List (Entry S R)} → queued ≡ laid_from (16 * place) entries g.queued
      → handed_as (Ok ticket) (registry_of own_submitted g.rows g.firsts g.opening queue queued g.outcomes g.heads g.lines)
      ≡ handed_in j (submit g (station_of j sheet))
  submit_whole ready {entries} e {ticket} number {place} p {queue} a {queued} b =
      let es = take j.count sheet in
      let at = (g.own.oldest + g.own.waiting) % 16 in
      let queue-new : queue ≡ set g.queue at (submission_of es) = a ∙ (λ i. set g.queue (p i) (submission_of (e i))) in
      let queued-new : queued ≡ laid_from (16 * at) es g.queued = b ∙ (λ i. laid_from (16 * p i) (e i) g.queued) in
      (λ i. handed_as (Ok (record { number = number i })) (registry_of own_submitted g.rows g.firsts g.opening (queue-new i) (queued-new i) g.outcomes g.heads g.lines))
      ∙ ap (handed_in j) (goes_on (submit_refused g (station_of j sheet)) _ ready)
