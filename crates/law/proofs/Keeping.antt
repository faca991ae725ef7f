-- What the registrar's tables keep besides the law: rising versions, and tickets in the order of submission.
use Rattle.std.proofs.Common.{◌≡◌, ℕ, zero, suc, ◌+◌, ◌<◌, ◌≤◌, Bool, true, false, cond, ◌⊎◌, List, [], ◌∷◌, ◌++◌, map, length, take, Some, None, Ok, Err, Option, Result, sym, refl, ap, ◌∙◌, subst, ⊎_elim, arith}
use Rattle.std.specs.Option.{option_map}
use Rattle.std.specs.List.{AllByRecursion, slice_get}
use Rattle.std.proofs.lemmas.List.{append-nil}
use Rattle.kinds.specs.Stamps.{Order, Kind, Lawful}
use Rattle.model.specs.declared.entry.Entry.{Entry}
use Rattle.model.specs.declared.row.Row.{Row}
use Rattle.model.specs.declared.refusal.Refusal.{Refusal}
use Rattle.model.specs.declared.verdict.Verdict.{Verdict}
use Rattle.model.specs.declared.verdict.Verdict.TheVariants.{Accepted, Overtaken, Gone, NoPlace}
use Rattle.model.specs.Rows.{write_of, older, with_put, with_look}
use Rattle.station.specs.declared.job.Job.{Job}
use Rattle.station.specs.Station.{Image, Station, work_of, open_job, look_job, put_job, tune_job}
use Rattle.registrar.specs.Deciding.{Waiting, verdict_on}
use Rattle.registrar.specs.Registry.{Registry, queue_of, submit, submit_refused, submitted, unless, decide, decide_refused, decide_oldest, by_verdict, passed_over, taken_up, publish, publish_refused, published_unless, cleared, found, founded, founded_rows}
use Rattle.law.specs.Daybook.{Daybook, AcceptedJob, LaidBy, accepted_job, looks_of, puts_of, stays, first_taken, with_leaf, line_put}
use Rattle.law.specs.Account.{put_of}
use Rattle.law.specs.Promises.{Rising}
use Rattle.law.specs.Runs.{Call, opens, looks, puts, tunes, submits, decides, publishes, Desk, image_numbered, given, standing_at, after_open, answer_of, after_call, after_submit, after_decide, after_publish, shown, done, stands, is_done, shown_of, ticket_of, verdict_of, write_given, noted, laid_if, taken_if, Run, next, run, start}
use Rattle.law.proofs.StampOrder.{Lt}
use Rattle.law.proofs.Members.{In, in_none, in_push, there, Pairs, pairs_push}
use Rattle.law.proofs.Views.{leaf, Distinct, looks_at, accepted_row}
use Rattle.law.proofs.RowLaws.{write_put, older_put, rows_after_at, founded_from}
use Rattle.law.proofs.Queues.{queue_kept, queue-submitted, queue_decided, handed_in}
use Rattle.law.proofs.Acceptance.{top_in, top_at, older_in, Fits}
use Rattle.law.proofs.Invariant.{laid_of, WaitingOk, Inv}
use Rattle.law.proofs.EveryRun.{next_inv, founded_inv}
use Rattle.law.proofs.AtRegistrar.{submit_room, accepted_fits, first_in_line}

-- an accepted job as it was handed in
pub record Neat {S R : Type 0} (records : ℕ) (a : AcceptedJob S R) : Type 0 where
  pub entries : List (Entry S R)
  pub looks_are : a.looks ≡ looks_of (leaf entries)
  pub puts_are : a.puts ≡ puts_of (leaf entries)
  pub distinct : Distinct entries
  pub inside : AllByRecursion (λ (e : Entry S R). e.number < records) entries
  pub few : length entries ≤ 16

pub record Keeps {S R : Type 0} (o : Order S) (values : List R) (g : Registry S R) (accepted : List (AcceptedJob S R)) : Type 0 where
  pub rising : (x : ℕ) → Rising o (top_in o (slice_get g.rows x)) (older_in (slice_get g.rows x))
  pub neat : (a : AcceptedJob S R) → In a accepted → Neat (length values) a
  pub in_order : Pairs (λ (a b : AcceptedJob S R). a.ticket < b.ticket) accepted
  pub ahead : (a : AcceptedJob S R) → In a accepted → (w : Waiting S R) → In w (queue_of g) → a.ticket < w.ticket
  pub line : Pairs (λ (v w : Waiting S R). v.ticket < w.ticket) (queue_of g)
  pub issued : (w : Waiting S R) → In w (queue_of g) → (1 ≤ w.ticket) × (w.ticket ≤ g.own.tickets)
  pub taken : (a : AcceptedJob S R) → In a accepted → (1 ≤ a.ticket) × (a.ticket ≤ g.own.tickets)

module _ {S : Type 0} (o : Order S) where
  rising_take : (newer : S) (n : ℕ) (vs : List S) → Rising o newer vs → Rising o newer (take n vs)
  rising_take newer zero vs h = tt
  rising_take newer (suc n) [] h = tt
  rising_take newer (suc n) (v ∷ vs) h = (h.0, rising_take v n vs h.1)

module _ {S R : Type 0} (o : Order S) (s : S) where
  -- a row keeps its versions rising under a put with a later stamp
  rising_put : (v : R) (r : Row S R) → Lt o (write_of r) s → Rising o (write_of r) (older r) → Rising o (write_of (with_put v s r)) (older (with_put v s r))
  rising_put v r l h =
      subst (λ (z : List S). Rising o (write_of (with_put v s r)) z) (sym (older_put v s r))
      (subst (λ (z : S). Rising o z (take 3 (write_of r ∷ older r))) (sym (write_put v s r)) (rising_take o s 3 (write_of r ∷ older r) (l, h)))

  rising_accepted : (b : Bool) (p : Option R) (r : Option (Row S R)) → ((v : R) → p ≡ Some v → Lt o (top_in o r) s) → Rising o (top_in o r) (older_in r) → Rising o (top_in o (option_map (accepted_row o s p b) r)) (older_in (option_map (accepted_row o s p b) r))
  rising_accepted b p None l h = h
  rising_accepted true None (Some r) l h = h
  rising_accepted false None (Some r) l h = h
  rising_accepted true (Some v) (Some r) l h = rising_put v (with_look o s r) (l v refl) h
  rising_accepted false (Some v) (Some r) l h = rising_put v r (l v refl) h

module _ {S R : Type 0} (k : Kind S) (laws : Lawful k) (values : List R) (d : Desk S R) (b : Daybook S R) (h : Inv k values d b) (q : Keeps k.order values d.registry b.accepted) where
  -- the queue and the count of tickets as they were
  as_queued : (g : Registry S R) → g.rows ≡ d.registry.rows → queue_of g ≡ queue_of d.registry → g.own.tickets ≡ d.registry.own.tickets → Keeps k.order values g b.accepted
  as_queued g rows queue tickets =
      record {
        rising = λ x. subst (λ (z : List (Row S R)). Rising k.order (top_in k.order (slice_get z x)) (older_in (slice_get z x))) (sym rows) (q.rising x);
        neat = q.neat;
        in_order = q.in_order;
        ahead = λ a m w n. q.ahead a m w (subst (λ (z : List (Waiting S R)). In w z) queue n);
        line = subst (λ (z : List (Waiting S R)). Pairs (λ (v w : Waiting S R). v.ticket < w.ticket) z) (sym queue) q.line;
        issued = λ w n. let c = q.issued w (subst (λ (z : List (Waiting S R)). In w z) queue n) in (c.0, subst (λ (z : ℕ). w.ticket ≤ z) (sym tickets) c.1);
        taken = λ a m. let c = q.taken a m in (c.0, subst (λ (z : ℕ). a.ticket ≤ z) (sym tickets) c.1);
      }

  -- submit: the newest ticket at the end of the line
  submit_keeps : (t : Station S R) → length (work_of t).entries ≤ 16 → submit_refused d.registry t ≡ None → Keeps k.order values (submitted d.registry t) b.accepted
  submit_keeps t n e =
      record {
        rising = q.rising;
        neat = q.neat;
        in_order = q.in_order;
        ahead = λ a m w c. ⊎_elim (q.ahead a m w) (λ f. subst (λ (z : Waiting S R). a.ticket < z.ticket) (sym f) (let y = q.taken a m in omega (arith, y.1))) (joined w c);
        line = subst (λ (z : List (Waiting S R)). Pairs (λ (v w : Waiting S R). v.ticket < w.ticket) z) (sym now)
            (pairs_push (λ (v w : Waiting S R). v.ticket < w.ticket) (queue_of d.registry) (handed_in d.registry t) q.line (λ w c. let y = q.issued w c in omega (arith, y.1)));
        issued = λ w c. ⊎_elim (λ f. let y = q.issued w f in (y.0, omega (arith, y.1))) (λ f. subst (λ (z : Waiting S R). (1 ≤ z.ticket) × (z.ticket ≤ d.registry.own.tickets + 1)) (sym f) (omega arith, omega arith)) (joined w c);
        taken = λ a m. let y = q.taken a m in (y.0, omega (arith, y.1));
      }
    where
      now : queue_of (submitted d.registry t) ≡ queue_of d.registry ++ (handed_in d.registry t ∷ [])
      now = queue-submitted d.registry t h.sized n (submit_room d.registry t e).0

      joined : (w : Waiting S R) → In w (queue_of (submitted d.registry t)) → In w (queue_of d.registry) ⊎ (w ≡ handed_in d.registry t)
      joined w c = in_push (queue_of d.registry) (handed_in d.registry t) (subst (λ (z : List (Waiting S R)). In w z) now c)

  -- decide: the oldest leaves the line
  module _ (w : Waiting S R) (ws : List (Waiting S R)) (e : queue_of d.registry ≡ w ∷ ws) where
    lined : Pairs (λ (v u : Waiting S R). v.ticket < u.ticket) (w ∷ ws)
    lined = subst (λ (z : List (Waiting S R)). Pairs (λ (v u : Waiting S R). v.ticket < u.ticket) z) e q.line

    still : (u : Waiting S R) → In u ws → In u (queue_of d.registry)
    still u m = subst (λ (z : List (Waiting S R)). In u z) (sym e) (there m)

    passed_keeps : (v : Verdict S) → Keeps k.order values (passed_over k d.registry w v) b.accepted
    passed_keeps v =
        record {
          rising = q.rising;
          neat = q.neat;
          in_order = q.in_order;
          ahead = λ a m u c. q.ahead a m u (still u (subst (λ (z : List (Waiting S R)). In u z) now c));
          line = subst (λ (z : List (Waiting S R)). Pairs (λ (v u : Waiting S R). v.ticket < u.ticket) z) (sym now) lined.1;
          issued = λ u c. q.issued u (still u (subst (λ (z : List (Waiting S R)). In u z) now c));
          taken = q.taken;
        }
      where
        now : queue_of (passed_over k d.registry w v) ≡ ws
        now = queue_decided d.registry (passed_over k d.registry w v) 0 w ws h.sized refl refl refl e

    taken_keeps : (s : S) → verdict_on k d.registry.rows w ≡ Accepted s → Keeps k.order values (taken_up k d.registry w s) (b.accepted ++ (accepted_job s w.ticket (leaf w.entries) ∷ []))
    taken_keeps s v =
        record {
          rising = λ x. subst (λ (z : Option (Row S R)). Rising k.order (top_in k.order z) (older_in z)) (sym (rows_after_at k.order s w.entries ok.distinct d.registry.rows x))
              (rising_accepted k.order s (looks_at x (looks_of (leaf w.entries))) (put_of x (puts_of (leaf w.entries))) (slice_get d.registry.rows x) (λ u c. f.over_write x u c) (q.rising x));
          neat = λ a m. ⊎_elim (q.neat a) (λ c. subst (λ (z : AcceptedJob S R). Neat (length values) z) (sym c) (record { entries = w.entries; looks_are = refl; puts_are = refl; distinct = ok.distinct; inside = ok.inside; few = ok.few })) (in_push b.accepted new m);
          in_order = pairs_push (λ (a c : AcceptedJob S R). a.ticket < c.ticket) b.accepted new q.in_order (λ a m. q.ahead a m w first);
          ahead = λ a m u c. ⊎_elim (λ y. q.ahead a y u (still u (rest u c))) (λ y. subst (λ (z : AcceptedJob S R). z.ticket < u.ticket) (sym y) (lined.0 u (rest u c))) (in_push b.accepted new m);
          line = subst (λ (z : List (Waiting S R)). Pairs (λ (v u : Waiting S R). v.ticket < u.ticket) z) (sym now) lined.1;
          issued = λ u c. q.issued u (still u (rest u c));
          taken = λ a m. ⊎_elim (q.taken a) (λ y. subst (λ (z : AcceptedJob S R). (1 ≤ z.ticket) × (z.ticket ≤ d.registry.own.tickets)) (sym y) (q.issued w first)) (in_push b.accepted new m);
        }
      where
        new : AcceptedJob S R
        new = accepted_job s w.ticket (leaf w.entries)

        first : In w (queue_of d.registry)
        first = first_in_line k laws values d b h w ws e

        ok : WaitingOk k values b.accepted (top_at k.order d.registry.rows) d.images (length d.images) w
        ok = h.queue_ok w first

        f : Fits k.order values b.accepted d.registry.rows (accepted_job s w.ticket (leaf w.entries))
        f = accepted_fits k laws values d b h w ws e s v

        now : queue_of (taken_up k d.registry w s) ≡ ws
        now = queue_decided d.registry (taken_up k d.registry w s) 1 w ws h.sized refl refl refl e

        rest : (u : Waiting S R) → In u (queue_of (taken_up k d.registry w s)) → In u ws
        rest u c = subst (λ (z : List (Waiting S R)). In u z) now c

    decided_keeps : Keeps k.order values (by_verdict k (verdict_on k d.registry.rows w) d.registry w) (b.accepted ++ stays (verdict_on k d.registry.rows w) (laid_of w))
    decided_keeps = by (verdict_on k d.registry.rows w) refl
      where
        none : (v : Verdict S) → Keeps k.order values (passed_over k d.registry w v) (b.accepted ++ [])
        none v = subst (λ (z : List (AcceptedJob S R)). Keeps k.order values (passed_over k d.registry w v) z) (sym (append-nil b.accepted)) (passed_keeps v)

        by : (v : Verdict S) → verdict_on k d.registry.rows w ≡ v → Keeps k.order values (by_verdict k v d.registry w) (b.accepted ++ stays v (laid_of w))
        by (Accepted s) c = taken_keeps s c
        by Overtaken c = none Overtaken
        by Gone c = none Gone
        by NoPlace c = none NoPlace

  decide_keeps : let m = after_decide d (decide k d.registry) in Keeps k.order values m.desk.registry (taken_if (verdict_of m.answer) b).accepted
  decide_keeps = by (decide_refused k d.registry) (queue_of d.registry) refl
    where
      by : (r : Option Refusal) → (ws : List (Waiting S R)) → queue_of d.registry ≡ ws → let m = after_decide d (unless r d.registry (decide_oldest k ws d.registry)) in Keeps k.order values m.desk.registry (taken_if (verdict_of m.answer) b).accepted
      by (Some r) ws e = q
      by None [] e = q
      by None (w ∷ ws) e =
          subst (λ (z : List (LaidBy S R)). Keeps k.order values (by_verdict k (verdict_on k d.registry.rows w) d.registry w) (first_taken b z (verdict_on k d.registry.rows w)).accepted) (sym (h.waiting ∙ ap (map laid_of) e))
          (decided_keeps w ws e)

  -- the calls at a station leave the registrar and the accepted jobs alone
  abbrev Still : Desk S R → Daybook S R → Type 0
  Still e c = Keeps k.order values e.registry c.accepted

  open_step : (j : ℕ) (sheet : List (Entry S R)) (p : Option (Image S R)) → let m = given p d (λ i. after_open d j sheet (open_job k i)) in Still m.desk (cond (is_done m.answer) (with_leaf b j []) b)
  open_step j sheet None = q
  open_step j sheet (Some i) = by (open_job k i)
    where
      by : (r : Result (Job S) Refusal) → let m = after_open d j sheet r in Still m.desk (cond (is_done m.answer) (with_leaf b j []) b)
      by (Err r) = q
      by (Ok a) = q

  look_step : (j n x : ℕ) (p : Option (Image S R)) (u : Option (Station S R)) → let m = given p d (λ i. standing_at u d (λ t. after_call d j shown (look_job k t i x))) in Still m.desk (noted (shown_of m.answer) (write_given (image_numbered d.images n) x) j x b)
  look_step j n x None u = q
  look_step j n x (Some i) None = q
  look_step j n x (Some i) (Some t) = by (look_job k t i x).answer (write_given (image_numbered d.images n) x)
    where
      by : (r : Result R Refusal) (c : Option S) → Keeps k.order values d.registry (noted (shown_of (answer_of {S = S} {R = R} shown r)) c j x b).accepted
      by (Err r) c = q
      by (Ok v) None = q
      by (Ok v) (Some c) = q

  put_step : (j x : ℕ) (v : R) (p : Option (Image S R)) (u : Option (Station S R)) → let m = given p d (λ i. standing_at u d (λ t. after_call d j (λ y. done) (put_job k t i x v))) in Still m.desk (cond (is_done m.answer) (with_leaf b j (line_put x v (b.leaves j))) b)
  put_step j x v None u = q
  put_step j x v (Some i) None = q
  put_step j x v (Some i) (Some t) = by (put_job k t i x v).answer
    where
      by : (r : Result (Unit {0}) Refusal) → Keeps k.order values d.registry (cond (is_done (answer_of {S = S} {R = R} (λ y. done) r)) (with_leaf b j (line_put x v (b.leaves j))) b).accepted
      by (Err r) = q
      by (Ok y) = q

  tune_step : (j : ℕ) (p : Option (Image S R)) (u : Option (Station S R)) → Still (given p d (λ i. standing_at u d (λ t. after_call d j stands (tune_job k t i)))).desk b
  tune_step j None u = q
  tune_step j (Some i) None = q
  tune_step j (Some i) (Some t) = q

  submit_step : (j : ℕ) (u : Option (Station S R)) → d.jobs j ≡ u → let m = standing_at u d (λ t. let s = submit d.registry t in after_submit d j s s.answer) in Still m.desk (laid_if (ticket_of m.answer) j b)
  submit_step j None e = q
  submit_step j (Some t) e = by (submit_refused d.registry t) refl
    where
      by : (r : Option Refusal) → submit_refused d.registry t ≡ r → let s = unless r d.registry (record { answer = Ok (d.registry.own.tickets + 1); registry = submitted d.registry t }) in let m = after_submit d j s s.answer in Still m.desk (laid_if (ticket_of m.answer) j b)
      by (Some r) c = q
      by None c = submit_keeps t (h.job_ok j t e).good.few c

  publish_step : (i : Image S R) → let p = publish d.registry i in Still (after_publish d p p.answer).desk b
  publish_step i = by (publish_refused d.registry i)
    where
      by : (r : Option Refusal) → let p = published_unless r d.registry i in Still (after_publish d p p.answer).desk b
      by (Some r) = q
      by None = as_queued (cleared d.registry) refl (sym (queue_kept d.registry (cleared d.registry) refl refl refl refl)) refl

module _ {S R : Type 0} (k : Kind S) (laws : Lawful k) (values : List R) where
  next_keeps : (r : Run S R) (c : Call S R) → Inv k values r.desk r.book → Keeps k.order values r.desk.registry r.book.accepted → Keeps k.order values (next k r c).desk.registry (next k r c).book.accepted
  next_keeps r (opens j n sheet) h q = open_step k laws values r.desk r.book h q j sheet (image_numbered r.desk.images n)
  next_keeps r (looks j n x) h q = look_step k laws values r.desk r.book h q j n x (image_numbered r.desk.images n) (r.desk.jobs j)
  next_keeps r (puts j n x v) h q = put_step k laws values r.desk r.book h q j x v (image_numbered r.desk.images n) (r.desk.jobs j)
  next_keeps r (tunes j n) h q = tune_step k laws values r.desk r.book h q j (image_numbered r.desk.images n) (r.desk.jobs j)
  next_keeps r (submits j) h q = submit_step k laws values r.desk r.book h q j (r.desk.jobs j) refl
  next_keeps r decides h q = decide_keeps k laws values r.desk r.book h q
  next_keeps r (publishes i) h q = publish_step k laws values r.desk r.book h q i

  run_keeps : (calls : List (Call S R)) (r : Run S R) → Inv k values r.desk r.book → Keeps k.order values r.desk.registry r.book.accepted → Keeps k.order values (run k calls r).desk.registry (run k calls r).book.accepted
  run_keeps [] r h q = q
  run_keeps (c ∷ cs) r h q = run_keeps cs (next k r c) (next_inv k laws values r c h) (next_keeps r c h q)

  -- a row just founded has one version
  founded_keeps : (brought : Registry S R) → Keeps k.order values (founded k.order values brought) []
  founded_keeps brought =
      record {
        rising = λ x. by x (slice_get (founded_rows k.order values brought.rows) x) refl;
        neat = λ a m. in_none m;
        in_order = tt;
        ahead = λ a m. in_none m;
        line = tt;
        issued = λ w m. in_none m;
        taken = λ a m. in_none m;
      }
    where
      by : (x : ℕ) (r : Option (Row S R)) → slice_get (founded_rows k.order values brought.rows) x ≡ r → Rising k.order (top_in k.order r) (older_in r)
      by x None e = tt
      by x (Some r) e = let f = founded_from k.order values brought.rows x r e in subst (λ (z : Row S R). Rising k.order (write_of z) (older z)) (sym f.is) tt

  pub every_run_keeps : (brought : Registry S R) → (found k.order values brought).answer ≡ Ok tt → (calls : List (Call S R)) → let r = run k calls (start k values brought) in Keeps k.order values r.desk.registry r.book.accepted
  every_run_keeps brought e calls = run_keeps calls (start k values brought) (founded_inv k laws values brought e) (founded_keeps brought)
