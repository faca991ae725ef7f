-- The law, of tables that a run led to.
use Rattle.std.proofs.Common.{subst}
use Rattle.kinds.specs.Stamps.{Kind, Lawful}
use Rattle.registrar.specs.Registry.{Registry}
use Rattle.law.specs.Account.{Accounted}
use Rattle.law.specs.HandOver.{AccountedFor}
use Rattle.law.specs.Runs.{run, start}
use Rattle.law.proofs.EveryRun.{accounts}
use Rattle.law.proofs.LeanOn.{promises_kept}

pub accounted_for : {S R : Type 0} (k : Kind S) → Lawful k → (g : Registry S R) → AccountedFor k g
accounted_for {S} {R} k laws g values brought e calls q =
    (subst (λ (z : Registry S R). Accounted k.order values z (run k calls (start k values brought)).book) q (accounts k laws R values brought e calls), promises_kept k laws R values brought e calls)
