-- The lines that were carried out, with those that are left, are the lines of the input.
use Rattle.std.proofs.Common.{◌≡◌, ◌+◌, length}
use Rattle.std.specs.Iterator.Adapters.{enumerate_source, enumerate_count}
use Rattle.schedule_text.specs.Lines.{lines_of}
use Rattle.schedule_session.proofs.run.run_lines.Given as goal

abbrev pub invariant-loop-i : goal.invariant-loop-i
invariant-loop-i l =
    (goal.iterator-loop-i).can_next l.i-iterator
    × (goal.iterator-loop-i).is_finite l.i-iterator
    × (enumerate_count l.i-iterator + length (lines_of (enumerate_source l.i-iterator).0.now) ≡ length (lines_of l.input))
