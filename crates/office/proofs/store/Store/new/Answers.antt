use Rattle.std.proofs.Common.{◌∙◌, ap, replicate}
use Rattle.office.proofs.store.Store.new.Goals as goal

pub returns-clause-queued : goal.returns-clause-queued
returns-clause-queued g c = c.in_ok-places-5.ensures ∙ ap (λ entry. replicate 256 entry) c.blank.ensures
