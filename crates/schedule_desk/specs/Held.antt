-- What names stand for on a desk, and what is found there.
use Rattle.std.specs.Prelude.{◌≡◌, ℕ, List, Some, None, Ok, Err, Option, Result}
use Rattle.std.specs.BTreeMap.{get_by_text}
use Rattle.std.specs.List.{slice_get}
use Rattle.std.specs.Option.{option_map}
use Rattle.office.specs.Images.{image_kept}
use Rattle.registrar.specs.declared.ticket.Ticket.{Ticket}
use Rattle.schedule_calls.specs.declared.reason.Fault.{Fault}
use Rattle.schedule_calls.specs.declared.reason.Fault.TheVariants.{NoCall, Memory}
use Rattle.schedule_desk.specs.declared.desk.Desk.{Desk}
use Rattle.schedule_desk.specs.declared.holdings.Holding.{Holding}
use Rattle.schedule_desk.specs.declared.holdings.Holding.TheVariants.{AtWork, Submitted}
use Rattle.schedule_desk.specs.declared.holdings.Holdings.{Holdings}
use Rattle.schedule_desk.specs.declared.holdings.Station.{Station as AtDesk}
use Rattle.station.specs.Heard.{station}
use Rattle.station.specs.Station.{Image, Station}

-- What is looked for is found, or there is none, unless no memory is left.
abbrev pub Finds : {X Y : Type 0} → (Y → X) → Option X → Result Y Fault → Type 0
Finds view found (Ok y) = found ≡ Some (view y)
Finds view found (Err (NoCall reason)) = found ≡ None
Finds view found (Err Memory) = Unit {0}

-- the same of what needs no memory
abbrev pub Shows : {X Y E : Type 0} → (Y → X) → Option X → Result Y E → Type 0
Shows view found (Ok y) = found ≡ Some (view y)
Shows view found (Err e) = found ≡ None

module _ {S R : Type 0} where
  -- a job with its sheet
  abbrev pub station_held : AtDesk S R → Station S R
  station_held t = station t.job t.sheet.items

  -- the job, or the ticket, that a name stands for
  abbrev pub job_held : Option (Holding S R) → Option (AtDesk S R)
  job_held (Some (AtWork t)) = Some t
  job_held (Some (Submitted c)) = None
  job_held None = None

  abbrev pub ticket_held : Option (Holding S R) → Option Ticket
  ticket_held (Some (AtWork t)) = None
  ticket_held (Some (Submitted c)) = Some c
  ticket_held None = None

  abbrev pub job_named : Holdings S R → List ℕ → Option (AtDesk S R)
  job_named h name = job_held (get_by_text h.named name)

  abbrev pub ticket_named : Holdings S R → List ℕ → Option Ticket
  ticket_named h name = ticket_held (get_by_text h.named name)

  -- a name is free where it stands for nothing
  abbrev pub if_free : Option (Holding S R) → Option (Unit {0})
  if_free (Some held) = None
  if_free None = Some tt

  -- the image of a number, if it was published
  abbrev pub image_numbered : Desk S R → ℕ → Option (Image S R)
  image_numbered d number = option_map image_kept (slice_get d.images.items number)
