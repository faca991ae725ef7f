-- What holds of a registrar's tables that some run led to.
use Rattle.std.specs.Prelude.{◌≡◌, List, Ok}
use Rattle.kinds.specs.Stamps.{Kind}
use Rattle.registrar.specs.Registry.{Registry, found}
use Rattle.registrar.specs.Calls.{registry_of}
use Rattle.law.specs.declared.handover.Books.{Books}
use Rattle.law.specs.Account.{Accounted}
use Rattle.law.specs.Promises.{KeptPromises}
use Rattle.law.specs.Runs.{Call, run, start}

-- the books that are handed over, as the registry that they hold
abbrev pub registry_in_books : {S R : Type 0} → Books S R → Registry S R
registry_in_books b = registry_of b.registrar.now b.rows.now b.firsts.now b.opening.now b.queue.now b.queued.now b.outcomes.now b.heads.now b.lines.now

-- whichever run led to these tables: the stamp order accounts for all that it accepted
abbrev pub AccountedFor : {S R : Type 0} → Kind S → Registry S R → Type 0
AccountedFor {S} {R} k g =
    (values : List R) (brought : Registry S R) → (found k.order values brought).answer ≡ Ok tt → (calls : List (Call S R)) →
    (run k calls (start k values brought)).desk.registry ≡ g →
    Accounted k.order values g (run k calls (start k values brought)).book × KeptPromises k (run k calls (start k values brought)).desk
