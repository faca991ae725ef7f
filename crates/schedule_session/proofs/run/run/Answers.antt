-- With no input the help is printed.
use Rattle.std.proofs.Common.{◌≡◌, ℕ, List, Ok, ap, string_bytes}
use Rattle.schedule_text.specs.Runs.{Told}
use Rattle.schedule_session.specs.Runs.{help_text}
use Rattle.schedule_session.proofs.run.run.Goals as goal

help_told : (ys : List ℕ) → ys ≡ help_text → ◌≡◌ {A = Told} (record { text = ys; ending = Ok tt }) (record { text = help_text; ending = Ok tt })
help_told ys e = ap (λ zs. let t : Told = record { text = zs; ending = Ok tt } in t) e

pub returns-then-is_empty-clause-help : goal.returns-then-is_empty-clause-help
returns-then-is_empty-clause-help c = λ h. help_told (string_bytes c.in_ok-from_str.field-0) c.in_ok-from_str.ensures.ok
