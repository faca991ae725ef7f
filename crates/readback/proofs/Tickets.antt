-- No call takes the count of tickets past its end.
use Rattle.std.proofs.Common.{◌≡◌, ℕ, ◌+◌, ◌≤◌, List, [], ◌∷◌, Some, None, Ok, Err, Option, Result, refl, arith}
use Rattle.kinds.specs.Stamps.{Kind}
use Rattle.model.specs.declared.entry.Entry.{Entry}
use Rattle.model.specs.declared.verdict.Verdict.{Verdict}
use Rattle.model.specs.declared.verdict.Verdict.TheVariants.{Accepted, Overtaken, Gone, NoPlace}
use Rattle.model.specs.declared.refusal.Refusal.{Refusal}
use Rattle.station.specs.declared.job.Job.{Job}
use Rattle.station.specs.Station.{Image, Station, Answered, open_job, look_job, put_job, tune_job}
use Rattle.registrar.specs.Deciding.{Waiting, verdict_on}
use Rattle.registrar.specs.Registry.{Registry, queue_of, submit, submit_refused, submitted, unless, decide, decide_refused, decide_oldest, by_verdict, publish, publish_refused, published_unless}
use Rattle.law.specs.Runs.{Call, opens, looks, puts, tunes, submits, decides, publishes, Answer, shown, done, stands, Desk, image_numbered, given, standing_at, after_open, after_call, after_submit, after_publish, step, Run, next, run}
use Rattle.law.proofs.AtRegistrar.{submit_room}

-- so many tickets as a count of four bytes has
abbrev pub Counted : {S R : Type 0} → Registry S R → Type 0
Counted g = g.own.tickets ≤ 4294967295

module _ {S R : Type 0} (k : Kind S) where
  by_counted : (v : Verdict S) (g : Registry S R) (w : Waiting S R) → Counted g → Counted (by_verdict k v g w)
  by_counted (Accepted s) g w h = h
  by_counted Overtaken g w h = h
  by_counted Gone g w h = h
  by_counted NoPlace g w h = h

  decide_counted : (g : Registry S R) → Counted g → Counted (decide k g).registry
  decide_counted g h = by (decide_refused k g) (queue_of g)
    where
      by : (r : Option Refusal) (ws : List (Waiting S R)) → Counted (unless r g (decide_oldest k ws g)).registry
      by (Some r) ws = h
      by None [] = h
      by None (w ∷ ws) = by_counted (verdict_on k g.rows w) g w h

  publish_counted : (d : Desk S R) (i : Image S R) → Counted d.registry → let p = publish d.registry i in Counted (after_publish d p p.answer).desk.registry
  publish_counted d i h = by (publish_refused d.registry i)
    where
      by : (r : Option Refusal) → let p = published_unless r d.registry i in Counted (after_publish d p p.answer).desk.registry
      by (Some r) = h
      by None = h

  submit_counted : (d : Desk S R) (j : ℕ) (q : Option (Station S R)) → Counted d.registry → Counted (standing_at q d (λ t. let s = submit d.registry t in after_submit d j s s.answer)).desk.registry
  submit_counted d j None h = h
  submit_counted d j (Some t) h = by (submit_refused d.registry t) refl
    where
      by : (r : Option Refusal) → submit_refused d.registry t ≡ r → let s = unless r d.registry (record { answer = Ok (d.registry.own.tickets + 1); registry = submitted d.registry t }) in Counted (after_submit d j s s.answer).desk.registry
      by (Some r) c = h
      by None c = let l = (submit_room d.registry t c).1 in omega arith

  open_counted : (d : Desk S R) (j : ℕ) (sheet : List (Entry S R)) (p : Option (Image S R)) → Counted d.registry → Counted (given p d (λ i. after_open d j sheet (open_job k i))).desk.registry
  open_counted d j sheet None h = h
  open_counted d j sheet (Some i) h = by (open_job k i)
    where
      by : (r : Result (Job S) Refusal) → Counted (after_open d j sheet r).desk.registry
      by (Err r) = h
      by (Ok a) = h

  -- a call at a station leaves the registrar alone
  call_counted : {A : Type 0} (d : Desk S R) (j : ℕ) (f : A → Answer S R) (a : Image S R → Station S R → Answered S R A) (p : Option (Image S R)) (q : Option (Station S R))
      → Counted d.registry → Counted (given p d (λ i. standing_at q d (λ t. after_call d j f (a i t)))).desk.registry
  call_counted d j f a None q h = h
  call_counted d j f a (Some i) None h = h
  call_counted d j f a (Some i) (Some t) h = h

  step_counted : (d : Desk S R) (c : Call S R) → Counted d.registry → Counted (step k d c).desk.registry
  step_counted d (opens j n sheet) h = open_counted d j sheet (image_numbered d.images n) h
  step_counted d (looks j n x) h = call_counted d j shown (λ i t. look_job k t i x) (image_numbered d.images n) (d.jobs j) h
  step_counted d (puts j n x v) h = call_counted d j (λ u. done) (λ i t. put_job k t i x v) (image_numbered d.images n) (d.jobs j) h
  step_counted d (tunes j n) h = call_counted d j stands (λ i t. tune_job k t i) (image_numbered d.images n) (d.jobs j) h
  step_counted d (submits j) h = submit_counted d j (d.jobs j) h
  step_counted d decides h = decide_counted d.registry h
  step_counted d (publishes i) h = publish_counted d i h

  pub run_counted : (calls : List (Call S R)) (r : Run S R) → Counted r.desk.registry → Counted (run k calls r).desk.registry
  run_counted [] r h = h
  run_counted (c ∷ cs) r h = run_counted cs (next k r c) (step_counted r.desk c h)
