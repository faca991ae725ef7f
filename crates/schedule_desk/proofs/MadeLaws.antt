-- What is answered of what was found.
use Rattle.std.proofs.Common.{◌≡◌, ℕ, Some, None, Ok, Err, Option, Result, List, length, map, replicate, refl, sym, ap, ◌∙◌}
use Rattle.std.specs.List.{slice_get}
use Rattle.std.specs.Option.{option_map, option_and_then}
use Rattle.kinds.specs.Stamps.{Order}
use Rattle.model.specs.declared.entry.Entry.{Entry}
use Rattle.model.specs.declared.image.ImageRow.{ImageRow}
use Rattle.model.specs.declared.refusal.Refusal.{Refusal}
use Rattle.model.specs.declared.verdict.Outcome.{Outcome}
use Rattle.office.specs.Images.{image_kept, opening_row}
use Rattle.office.specs.Store.{free_outcome}
use Rattle.office.specs.declared.images.Published.{Published}
use Rattle.registrar.specs.Calls.{published_as, image_with, or_job, handed_as, handed_in}
use Rattle.registrar.specs.Registry.{Registry, submit, publish}
use Rattle.registrar.specs.declared.publish.ImageHead.{ImageHead}
use Rattle.registrar.specs.declared.ticket.Ticket.{Ticket}
use Rattle.schedule_desk.specs.Founded.{opening_image}
use Rattle.schedule_desk.specs.Held.{station_held, image_numbered}
use Rattle.schedule_desk.specs.Made.{answered}
use Rattle.schedule_desk.specs.declared.desk.Desk.{Desk}
use Rattle.schedule_desk.specs.declared.holdings.Station.{Station as AtDesk}
use Rattle.station.specs.Heard.{station, answered as at_station}
use Rattle.station.specs.Station.{Image, Station, Answered}
use Rattle.station.specs.declared.job.Job.{Job}

-- of one thing that is named, and another one by it
pub of_both : {T I A : Type 0} (f : T → I → A) (g : T → Option I) (named : Option T) (t : T) (i : I) → named ≡ Some t → g t ≡ Some i → option_and_then (λ t. option_map (f t) (g t)) named ≡ Some (f t i)
of_both f g named t i n e = ap (option_and_then (λ t. option_map (f t) (g t))) n ∙ ap (option_map (f t)) e

pub of_one : {T I A : Type 0} (f : T → I → A) (g : T → Option I) (named : Option T) (t : T) → named ≡ Some t → g t ≡ None → option_and_then (λ t. option_map (f t) (g t)) named ≡ None
of_one f g named t n e = ap (option_and_then (λ t. option_map (f t) (g t))) n ∙ ap (option_map (f t)) e

-- the answer of a call at a station, whose sheet the desk has in a list of its own
pub answer_at : {S R A B : Type 0} (f : A → B) (call : Station S R → Answered S R A) (t : AtDesk S R) {sheet : List (Entry S R)} {r : Result A Refusal} {job : Job S} {left : List (Entry S R)}
    → sheet ≡ t.sheet.items → at_station r job left ≡ call (station t.job sheet) → Some (answered f (call (station_held t)).answer) ≡ Some (answered f r)
answer_at f call t same e = ap (λ s. Some (answered f (call (station t.job s)).answer)) (sym same) ∙ ap (λ a. Some (answered f a.answer)) (sym e)

-- the image of a number, as it was looked for
module _ {S R : Type 0} (d : Desk S R) {images : List (Published S R)} {number wanted : ℕ} (same : images ≡ d.images.items) (named : number ≡ wanted) where
  there : option_map image_kept (slice_get images number) ≡ image_numbered d wanted
  there = (λ i. option_map image_kept (slice_get (same i) (named i)))

  pub image_shown : {i : Image S R} → option_map image_kept (slice_get images number) ≡ Some i → image_numbered d wanted ≡ Some i
  image_shown e = sym there ∙ e

  pub no_image : option_map image_kept (slice_get images number) ≡ None → image_numbered d wanted ≡ None
  no_image e = sym there ∙ e

-- the image that was never published, as a publication is handed it
pub opening_handed : {S R : Type 0} (o : Order S) {values items : List R} {head : ImageHead} {rows : List (ImageRow S R)} {outcomes : List (Outcome S)}
    → values ≡ items → head ≡ record { records = length values; number = 0; count = 0 } → rows ≡ map (opening_row o) values → outcomes ≡ replicate 32 free_outcome
    → image_with head rows outcomes ≡ opening_image o items
opening_handed o same h r u = (λ i. image_with (h i) (r i) (u i)) ∙ ap (opening_image o) same

-- the answer of a publication
pub publish_told : {S R : Type 0} {g kept left : Registry S R} {i shown after : Image S R} {r : Result ℕ Refusal} → g ≡ kept → i ≡ shown → published_as r left after ≡ publish g i
    → (publish kept shown).answer ≡ r
publish_told same seen e = sym (ap (λ p. p.answer) (e ∙ (λ j. publish (same j) (seen j))))

-- what a submission is answered, with the ticket as its number
abbrev number_or : {S : Type 0} → Result Ticket (Refusal × Job S) → Result ℕ Refusal
number_or (Ok t) = Ok t.number
number_or (Err p) = Err p.0

number_back : {S : Type 0} (j : Job S) (a : Result ℕ Refusal) → number_or (or_job j a) ≡ a
number_back j (Ok n) = refl
number_back j (Err r) = refl

pub submit_told : {S R : Type 0} (job : Job S) {g kept left : Registry S R} {sheet items : List (Entry S R)} {r : Result Ticket (Refusal × Job S)} → g ≡ kept → sheet ≡ items
    → handed_as r left ≡ handed_in job (submit g (station job sheet)) → (submit kept (station job items)).answer ≡ number_or r
submit_told job {kept = kept} {items = items} same own e =
    sym (number_back job (submit kept (station job items)).answer) ∙ ap number_or (sym (ap (λ h. h.answer) (e ∙ (λ i. handed_in job (submit (same i) (station job (own i)))))))
