-- What the calls of a desk answer: what the library answers of the registrar, and of the job, the ticket and the image
-- that are named.
use Rattle.std.specs.Prelude.{◌≡◌, ℕ, List, Some, None, Ok, Err, Option, Result, unwrap_or}
use Rattle.std.specs.BTreeMap.{get_by_text}
use Rattle.std.specs.Option.{option_map, option_and_then}
use Rattle.kinds.specs.Stamps.{Kind}
use Rattle.model.specs.declared.refusal.Refusal.{Refusal}
use Rattle.office.specs.Store.{registry_kept}
use Rattle.registrar.specs.Registry.{Registry, submit, decide, publish, settle}
use Rattle.station.specs.Station.{open_job, look_job, put_job, tune_job}
use Rattle.schedule_calls.specs.Numbers.{numeral}
use Rattle.schedule_calls.specs.declared.command.Call.{Call}
use Rattle.schedule_calls.specs.declared.command.Call.TheVariants.{Publish, Open, Look, Put, Tune, Submit, Decide, Settle, Waive}
use Rattle.schedule_calls.specs.declared.reason.Fault.TheVariants.{NoCall, Memory}
use Rattle.schedule_desk.specs.declared.answer.Answer.{Answer}
use Rattle.schedule_desk.specs.declared.answer.Answer.TheVariants.{Image, Stands, Value, Done, Ticket, Decided, Settled}
use Rattle.schedule_desk.specs.declared.desk.Desk.{Desk}
use Rattle.schedule_desk.specs.declared.failure.Failure.{Failure}
use Rattle.schedule_desk.specs.declared.failure.Failure.TheVariants.{Refused, Ended}
use Rattle.schedule_desk.specs.Founded.{opening_image}
use Rattle.schedule_desk.specs.Held.{station_held, job_named, ticket_named, if_free, image_numbered}

-- the library's answer as a desk's, or its refusal
abbrev pub answered : {A B : Type 0} → (A → B) → Result A Refusal → Result B Refusal
answered f (Ok a) = Ok (f a)
answered f (Err r) = Err r

-- The answer or the refusal that was meant comes out, or that the line is no call, unless no memory is left.
abbrev pub Made : {A : Type 0} → Option (Result A Refusal) → Result A Failure → Type 0
Made meant (Ok a) = meant ≡ Some (Ok a)
Made meant (Err (Refused r)) = meant ≡ Some (Err r)
Made meant (Err (Ended (NoCall reason))) = meant ≡ None
Made meant (Err (Ended Memory)) = Unit {0}

module _ {S R : Type 0} (k : Kind S) (d : Desk S R) where
  abbrev own_registry : Registry S R
  own_registry = registry_kept d.registrar d.store

  -- the registrar's own calls
  abbrev pub published : Option (Result (Answer S R) Refusal)
  published = Some (answered Image (publish own_registry (opening_image k.order d.store.opening.items)).answer)

  abbrev pub decided : Option (Result (Answer S R) Refusal)
  decided = Some (answered Decided (decide k own_registry).answer)

  -- of a job: it is opened under a free name; it looks, puts, tunes and is submitted
  abbrev pub opened : List ℕ → ℕ → Option (Result (Answer S R) Refusal)
  opened name image =
      option_and_then (λ _. option_map (λ i. answered (λ j. Stands j.standing) (open_job k i)) (image_numbered d image)) (if_free (get_by_text d.holdings.named name))

  abbrev pub looked : List ℕ → ℕ → Option ℕ → Option (Result (Answer S R) Refusal)
  looked name number at =
      option_and_then (λ t. option_map (λ i. answered Value (look_job k (station_held t) i number).answer) (image_numbered d (unwrap_or at t.job.image))) (job_named d.holdings name)

  abbrev pub put_there : List ℕ → ℕ → R → Option ℕ → Option (Result (Answer S R) Refusal)
  put_there name number value at =
      option_and_then (λ t. option_map (λ i. answered (λ _. Done) (put_job k (station_held t) i number value).answer) (image_numbered d (unwrap_or at t.job.image))) (job_named d.holdings name)

  abbrev pub tuned : List ℕ → ℕ → Option (Result (Answer S R) Refusal)
  tuned name image =
      option_and_then (λ t. option_map (λ i. answered Stands (tune_job k (station_held t) i).answer) (image_numbered d image)) (job_named d.holdings name)

  abbrev pub submitted : List ℕ → Option (Result (Answer S R) Refusal)
  submitted name = option_map (λ t. answered Ticket (submit own_registry (station_held t)).answer) (job_named d.holdings name)

  -- of a ticket: it is settled by an image, or waived
  abbrev pub settled : List ℕ → ℕ → Option (Result (Answer S R) Refusal)
  settled name image = option_and_then (λ c. option_map (λ i. answered Settled (settle c.number i)) (image_numbered d image)) (ticket_named d.holdings name)

  abbrev pub waived : List ℕ → Option (Result (Answer S R) Refusal)
  waived name = option_map (λ _. Ok Done) (ticket_named d.holdings name)

  -- what a call is answered
  abbrev pub made : Call R → Option (Result (Answer S R) Refusal)
  made Publish = published
  made (Open name image) = opened name.now image
  made (Look name record' at) = looked name.now (numeral record').value at
  made (Put name record' value at) = put_there name.now (numeral record').value value at
  made (Tune name image) = tuned name.now image
  made (Submit name) = submitted name.now
  made Decide = decided
  made (Settle name image) = settled name.now image
  made (Waive name) = waived name.now
