use Rattle.std.proofs.Common.{◌≡◌, take}
use Rattle.std.specs.Prelude.{fold}
use Rattle.reader.specs.Rebuilt.{with_job}
use Rattle.reader.proofs.reader.Reader.rebuild.Given as goal

abbrev pub invariant-loop-k : goal.invariant-loop-k
invariant-loop-k g l = l.space ≡ fold with_job l.self.opening (take l.k l.self.journal)
