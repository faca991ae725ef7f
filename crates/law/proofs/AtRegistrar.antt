-- Submit, decide and publish keep what every run keeps.
use Rattle.std.proofs.Common.{◌≡◌, ℕ, ◌+◌, ◌<◌, Bool, true, false, cond, not, ◌&&◌, eqb, leb, List, [], ◌∷◌, ◌++◌, map, length, take, Some, None, Ok, Option, sym, refl, ap, ◌∙◌, subst, ⊎_elim, add-zero}
use Rattle.std.specs.Option.{option_map}
use Rattle.std.specs.List.{slice_get}
use Rattle.std.proofs.lemmas.Bool.{leb-false}
use Rattle.std.proofs.lemmas.List.{append-nil}
use Rattle.kinds.specs.Stamps.{Kind, Lawful}
use Rattle.model.specs.declared.verdict.Verdict.{Verdict}
use Rattle.model.specs.declared.verdict.Verdict.TheVariants.{Accepted, Overtaken, Gone, NoPlace}
use Rattle.model.specs.declared.refusal.Refusal.{Refusal}
use Rattle.model.specs.declared.refusal.Refusal.TheVariants.{WrongTables, JobShut, NoSuchRecord, QueueFull, NoneWaiting, JournalFull, OutcomesFull, CountEnded}
use Rattle.model.specs.Refusals.{refused_if}
use Rattle.model.specs.Rows.{Stood}
use Rattle.model.specs.Tables.{sized}
use Rattle.model.specs.Sheets.{beyond}
use Rattle.station.specs.Station.{Station, work_of, is_shut, first_write}
use Rattle.registrar.specs.Deciding.{Waiting, verdict_on, overtaken, lower_bound, upper_bound}
use Rattle.registrar.specs.Registry.{Registry, registry_sized, queue_of, submit, submit_refused, submitted, unless, oldest_beyond, none_waits, decide_refused, decide_oldest, decide, by_verdict, passed_over, taken_up}
use Rattle.law.specs.Daybook.{LaidBy, Daybook, AcceptedJob, accepted_job, changed, laid_behind, first_taken, journal_of}
use Rattle.law.specs.Runs.{Desk, after_submit, after_decide, ticket_of, verdict_of, laid_if, taken_if}
use Rattle.law.specs.Account.{FinalOrder}
use Rattle.law.proofs.StampOrder.{some_none}
use Rattle.law.proofs.Members.{In, in_left, in_push, here, there}
use Rattle.law.proofs.Views.{leaf}
use Rattle.law.proofs.Sizes.{sizes, sized_submitted, sized_passed, sized_taken}
use Rattle.law.proofs.Queues.{queue-submitted, queue_decided, handed_in}
use Rattle.law.proofs.Journals.{PlacedBelow, journal_same, journal_taken, placed_taken}
use Rattle.law.proofs.Plays.{origin_in}
use Rattle.law.proofs.History.{since_on, Grown}
use Rattle.law.proofs.FinalOrder.{final_enter}
use Rattle.law.proofs.Jobs.{refused_none, row_stood}
use Rattle.law.proofs.Acceptance.{top_at, accepted_by, Fits, fits, sound_push}
use Rattle.law.proofs.Grows.{rows_grown, grown, entries_last}
use Rattle.law.proofs.Invariant.{shown_in, laid_of, WaitingOk, StationOk, Inv}

module _ {S R : Type 0} where
  pub laid_push : (ws : List (Waiting S R)) (w : Waiting S R) → map laid_of ws ++ (laid_of w ∷ []) ≡ map laid_of (ws ++ (w ∷ []))
  laid_push [] w = refl
  laid_push (v ∷ vs) w = ap (λ ls. laid_of v ∷ ls) (laid_push vs w)

  -- a submission that is taken finds a place in the queue, and a ticket left
  pub submit_room : (g : Registry S R) (t : Station S R) → submit_refused g t ≡ None → (g.own.waiting < 16) × (g.own.tickets < 4294967295)
  submit_room g t e =
      let last : Option Refusal = refused_if (leb 4294967295 g.own.tickets) CountEnded None in
      let full : Option Refusal = refused_if (leb 16 g.own.waiting) QueueFull last in
      let away : Option Refusal = refused_if (beyond g.own.records (work_of t).entries) NoSuchRecord full in
      let shut : Option Refusal = refused_if (is_shut t.job.standing) JobShut away in
      let a = refused_none (not (registry_sized g && sized t.sheet 16)) WrongTables shut e in
      let b = refused_none (is_shut t.job.standing) JobShut away a.1 in
      let c = refused_none (beyond g.own.records (work_of t).entries) NoSuchRecord full b.1 in
      let d = refused_none (leb 16 g.own.waiting) QueueFull last c.1 in
      (leb-false 16 g.own.waiting d.0, leb-false 4294967295 g.own.tickets (refused_none (leb 4294967295 g.own.tickets) CountEnded None d.1).0)

  -- a decision that is made finds a place in the journal
  pub journal_room : (k : Kind S) (g : Registry S R) → decide_refused k g ≡ None → g.own.jobs < length g.heads
  journal_room k g e =
      let last : Option Refusal = refused_if (leb 32 g.own.outcomes) OutcomesFull None in
      let full : Option Refusal = refused_if (leb (length g.heads) g.own.jobs) JournalFull last in
      let none : Option Refusal = refused_if (none_waits k (queue_of g)) NoneWaiting full in
      let away : Option Refusal = refused_if (oldest_beyond k g (queue_of g)) NoSuchRecord none in
      let a = refused_none (not (registry_sized g)) WrongTables away e in
      let b = refused_none (oldest_beyond k g (queue_of g)) NoSuchRecord none a.1 in
      let c = refused_none (none_waits k (queue_of g)) NoneWaiting full b.1 in
      leb-false (length g.heads) g.own.jobs (refused_none (leb (length g.heads) g.own.jobs) JournalFull last c.1).0

module _ {S R : Type 0} (k : Kind S) (laws : Lawful k) (values : List R) (d : Desk S R) (b : Daybook S R) (h : Inv k values d b) where
  -- submit
  module _ (j : ℕ) (t : Station S R) (q : d.jobs j ≡ Some t) where
    gone : (n : ℕ) (u : Station S R) (c : Bool) → cond c None (d.jobs n) ≡ Some u → d.jobs n ≡ Some u
    gone n u true e = absurd (some_none (sym e))
    gone n u false e = e

    taken_in : submit_refused d.registry t ≡ None → Inv k values (record { registry = submitted d.registry t; images = d.images; jobs = changed d.jobs j None }) (laid_behind b j (d.registry.own.tickets + 1))
    taken_in e =
        record {
          sized = sized_submitted d.registry t h.sized ok.good.few;
          records = h.records;
          opening = h.opening;
          cycle = h.cycle;
          images_ok = h.images_ok;
          sound = h.sound;
          rows_ok = h.rows_ok;
          image_origin = h.image_origin;
          image_since = h.image_since;
          job_ok = λ n u c. h.job_ok n u (gone n u (eqb j n) c);
          job_leaf = λ n u c. h.job_leaf n u (gone n u (eqb j n) c);
          queue_ok = λ w m. ⊎_elim (h.queue_ok w) (λ c. subst (λ (z : Waiting S R). WaitingOk k values b.accepted (top_at k.order d.registry.rows) d.images (length d.images) z) (sym c) own_ok) (in_push (queue_of d.registry) (handed_in d.registry t) (subst (λ (z : List (Waiting S R)). In w z) now m));
          waiting = ap (λ ls. ls ++ (record { ticket = d.registry.own.tickets + 1; leaf = b.leaves j } ∷ [])) h.waiting
              ∙ ap (λ l. map laid_of (queue_of d.registry) ++ (record { ticket = d.registry.own.tickets + 1; leaf = l } ∷ [])) (h.job_leaf j t q)
              ∙ laid_push (queue_of d.registry) (handed_in d.registry t) ∙ ap (map laid_of) (sym now);
          journal = subst (λ (z : List (AcceptedJob S R)). FinalOrder k.order b.accepted z) (journal_same d.registry (submitted d.registry t) refl refl refl) h.journal;
          placed = h.placed;
        }
      where
        ok : StationOk k values b.accepted (top_at k.order d.registry.rows) d.images (length d.images) t
        ok = h.job_ok j t q

        room : d.registry.own.waiting < 16
        room = (submit_room d.registry t e).0

        now : queue_of (submitted d.registry t) ≡ queue_of d.registry ++ (handed_in d.registry t ∷ [])
        now = queue-submitted d.registry t h.sized ok.good.few room

        own_ok : WaitingOk k values b.accepted (top_at k.order d.registry.rows) d.images (length d.images) (handed_in d.registry t)
        own_ok = record { image = t.job.image; stands = ok.good.stands; entries = ok.good.entries; distinct = ok.good.distinct; inside = ok.good.inside; few = ok.good.few }

    pub submit_inv : let s = submit d.registry t in let m = after_submit d j s s.answer in Inv k values m.desk (laid_if (ticket_of m.answer) j b)
    submit_inv = by (submit_refused d.registry t) refl
      where
        by : (r : Option Refusal) → submit_refused d.registry t ≡ r → let s = unless r d.registry (record { answer = Ok (d.registry.own.tickets + 1); registry = submitted d.registry t }) in let m = after_submit d j s s.answer in Inv k values m.desk (laid_if (ticket_of m.answer) j b)
        by (Some r) e = h
        by None e = taken_in e

  -- decide: a verdict that accepts nothing
  module _ (w : Waiting S R) (ws : List (Waiting S R)) (q : queue_of d.registry ≡ w ∷ ws) where
    pub first_in_line : In w (queue_of d.registry)
    first_in_line = subst (λ (z : List (Waiting S R)). In w z) (sym q) here

    book_is : b.waiting ≡ laid_of w ∷ map laid_of ws
    book_is = h.waiting ∙ ap (map laid_of) q

    left_over : (v : Verdict S) → Inv k values (record { registry = passed_over k d.registry w v; images = d.images; jobs = d.jobs }) (record { leaves = b.leaves; waiting = map laid_of ws; accepted = b.accepted ++ [] })
    left_over v =
        subst (λ (z : List (AcceptedJob S R)). Inv k values (record { registry = passed_over k d.registry w v; images = d.images; jobs = d.jobs }) (record { leaves = b.leaves; waiting = map laid_of ws; accepted = z })) (sym (append-nil b.accepted))
        (record {
          sized = sized_passed k d.registry w v h.sized;
          records = h.records;
          opening = h.opening;
          cycle = h.cycle;
          images_ok = h.images_ok;
          sound = h.sound;
          rows_ok = h.rows_ok;
          image_origin = h.image_origin;
          image_since = h.image_since;
          job_ok = h.job_ok;
          job_leaf = h.job_leaf;
          queue_ok = λ u m. h.queue_ok u (subst (λ (z : List (Waiting S R)). In u z) (sym q) (there (subst (λ (z : List (Waiting S R)). In u z) now m)));
          waiting = ap (map laid_of) (sym now);
          journal = subst (λ (z : List (AcceptedJob S R)). FinalOrder k.order b.accepted z) (journal_same d.registry (passed_over k d.registry w v) refl refl (sym (add-zero d.registry.own.jobs))) h.journal;
          placed = subst (λ n. PlacedBelow n (take n d.registry.heads)) (sym (add-zero d.registry.own.jobs)) h.placed;
        })
      where
        now : queue_of (passed_over k d.registry w v) ≡ ws
        now = queue_decided d.registry (passed_over k d.registry w v) 0 w ws h.sized refl refl refl q

    -- an accepted job fits the ones accepted before it
    pub accepted_fits : (s : S) → verdict_on k d.registry.rows w ≡ Accepted s → Fits k.order values b.accepted d.registry.rows (accepted_job s w.ticket (leaf w.entries))
    accepted_fits s e =
        let ok = h.queue_ok w first_in_line in
        fits k laws values b.accepted (shown_in k.order values d.images (length d.images)) d.registry.rows d.registry.firsts ((sizes d.registry h.sized).rows ∙ h.records) h.rows_ok
        (shown_in k.order values d.images ok.image) w ok.entries ok.inside s
        (accepted_by k (overtaken k.order d.registry.rows w.entries) (lower_bound k.order d.registry.rows w.entries w.lower) (upper_bound k.order d.registry.rows w.entries w.upper) s e) w.ticket

    -- an acceptance
    taken_on : decide_refused k d.registry ≡ None → (s : S) → verdict_on k d.registry.rows w ≡ Accepted s → Inv k values (record { registry = taken_up k d.registry w s; images = d.images; jobs = d.jobs }) (record { leaves = b.leaves; waiting = map laid_of ws; accepted = b.accepted ++ (accepted_job s w.ticket (leaf w.entries) ∷ []) })
    taken_on r s e =
        record {
          sized = sized_taken k g w s h.sized room ok.few;
          records = h.records;
          opening = h.opening;
          cycle = h.cycle;
          images_ok = h.images_ok;
          sound = sound_push k.order laws.ordered values jobs last g.rows g.firsts h.rows_ok new f h.sound;
          rows_ok = rows_grown k.order laws.ordered values jobs last g.rows g.firsts size size_first h.rows_ok s w.ticket w.entries ok.distinct f;
          image_origin = λ n l x t c. origin_in k.order values jobs more x t keeps (h.image_origin n l x t c);
          image_since = λ n i c x. since_on k.order laws.ordered (up x) (shown_in k.order values d.images n x) (option_map row_stood (slice_get i.rows x)) (first_write i x) (h.image_since n i c x);
          job_ok = λ n t c. let z = h.job_ok n t c in record {
            count = z.count;
            good = record {
              stands = z.good.stands;
              entries = entries_last k.order laws.ordered values jobs more (top_at k.order g.rows) (top_at k.order (taken_up k g w s).rows) keeps up (shown_in k.order values d.images t.job.image) t.job.lower t.job.upper (work_of t).entries z.good.entries;
              distinct = z.good.distinct;
              inside = z.good.inside;
              few = z.good.few;
              place = z.good.place;
            };
          };
          job_leaf = h.job_leaf;
          queue_ok = λ u m. let z = h.queue_ok u (subst (λ (z : List (Waiting S R)). In u z) (sym q) (there (subst (λ (z : List (Waiting S R)). In u z) now m))) in record {
            image = z.image;
            stands = z.stands;
            entries = entries_last k.order laws.ordered values jobs more (top_at k.order g.rows) (top_at k.order (taken_up k g w s).rows) keeps up (shown_in k.order values d.images z.image) u.lower u.upper u.entries z.entries;
            distinct = z.distinct;
            inside = z.inside;
            few = z.few;
          };
          waiting = ap (map laid_of) (sym now);
          journal = subst (λ (z : List (AcceptedJob S R)). FinalOrder k.order more z) (sym (journal_taken k g w s h.sized room ok.few h.placed laws.ordered h.journal.serial.never_falls)) (final_enter k.order laws.ordered new jobs (journal_of g) h.journal);
          placed = placed_taken k g w s h.sized room ok.few h.placed;
        }
      where
        g : Registry S R
        g = d.registry

        jobs : List (AcceptedJob S R)
        jobs = b.accepted

        new : AcceptedJob S R
        new = accepted_job s w.ticket (leaf w.entries)

        more : List (AcceptedJob S R)
        more = b.accepted ++ (accepted_job s w.ticket (leaf w.entries) ∷ [])

        last : ℕ → Option (Stood S R)
        last = shown_in k.order values d.images (length d.images)

        ok : WaitingOk k values b.accepted (top_at k.order d.registry.rows) d.images (length d.images) w
        ok = h.queue_ok w first_in_line

        size : length d.registry.rows ≡ length values
        size = (sizes d.registry h.sized).rows ∙ h.records

        size_first : length d.registry.firsts ≡ length values
        size_first = (sizes d.registry h.sized).firsts ∙ h.records

        room : d.registry.own.jobs < length d.registry.heads
        room = journal_room k d.registry r

        f : Fits k.order values b.accepted d.registry.rows (accepted_job s w.ticket (leaf w.entries))
        f = accepted_fits s e

        keeps : (a : AcceptedJob S R) → In a b.accepted → In a more
        keeps a m = in_left (accepted_job s w.ticket (leaf w.entries) ∷ []) m

        up : (x : ℕ) → Grown k.order b.accepted more x (top_at k.order d.registry.rows x) (top_at k.order (taken_up k d.registry w s).rows x)
        up x = grown k.order laws.ordered values b.accepted last d.registry.rows d.registry.firsts size size_first h.rows_ok s w.ticket w.entries ok.distinct f x

        now : queue_of (taken_up k d.registry w s) ≡ ws
        now = queue_decided d.registry (taken_up k d.registry w s) 1 w ws h.sized refl refl refl q

    decided : decide_refused k d.registry ≡ None → let s = decide_oldest k (w ∷ ws) d.registry in Inv k values (after_decide d s).desk (taken_if (verdict_of (after_decide d s).answer) b)
    decided r =
        subst (λ (z : List (LaidBy S R)). Inv k values (record { registry = by_verdict k (verdict_on k d.registry.rows w) d.registry w; images = d.images; jobs = d.jobs }) (first_taken b z (verdict_on k d.registry.rows w))) (sym book_is)
        (by (verdict_on k d.registry.rows w) refl)
      where
        by : (v : Verdict S) → verdict_on k d.registry.rows w ≡ v → Inv k values (record { registry = by_verdict k v d.registry w; images = d.images; jobs = d.jobs }) (first_taken b (laid_of w ∷ map laid_of ws) v)
        by (Accepted s) e = taken_on r s e
        by Overtaken e = left_over Overtaken
        by Gone e = left_over Gone
        by NoPlace e = left_over NoPlace

  pub decide_inv : let m = after_decide d (decide k d.registry) in Inv k values m.desk (taken_if (verdict_of m.answer) b)
  decide_inv = by (decide_refused k d.registry) refl (queue_of d.registry) refl
    where
      by : (r : Option Refusal) → decide_refused k d.registry ≡ r → (ws : List (Waiting S R)) → queue_of d.registry ≡ ws → let m = after_decide d (unless r d.registry (decide_oldest k ws d.registry)) in Inv k values m.desk (taken_if (verdict_of m.answer) b)
      by (Some r) e ws q = h
      by None e [] q = h
      by None e (w ∷ ws) q = decided w ws q e
