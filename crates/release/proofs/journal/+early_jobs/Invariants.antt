-- Each turn goes on behind a job.
use Rattle.std.proofs.Common.{length}
use Rattle.release.proofs.journal.+early_jobs.Given as goal

abbrev pub decreases-early_jobs : goal.decreases-early_jobs
decreases-early_jobs g l = length l.heads.now
