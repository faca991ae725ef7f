use Rattle.std.proofs.Common.{◌≡◌, ◌+◌, string_bytes}
use Rattle.std.specs.Iterator.Adapters.{enumerate_source, enumerate_count}
use Rattle.schedule_text.specs.Lines.{lines_of}
use Rattle.schedule_text.specs.Runs.{told_from}
use Rattle.schedule_text.proofs.RunLaws.{before}
use Rattle.schedule_text.proofs.run.run.Given as goal

-- what is printed, with what the lines that are left add, is the printout
abbrev pub invariant-loop-i : goal.invariant-loop-i
invariant-loop-i l =
    (goal.iterator-loop-i).can_next l.i-iterator
    × (goal.iterator-loop-i).is_finite l.i-iterator
    × (before (string_bytes l.text) (told_from (enumerate_count l.i-iterator + 1) (lines_of (enumerate_source l.i-iterator).0.now)) ≡ told_from 1 (lines_of l.input))
