use Rattle.release.specs.Asked.{Lawful}
use Rattle.release.proofs.options.Options.read.Given as goal

abbrev pub invariant-loop-word : goal.invariant-loop-word
invariant-loop-word l = Lawful l.options
