use Rattle.std.proofs.Common.{◌≡◌, ◌≤◌, drop, vec_items}
use Rattle.std.specs.List.{between}
use Rattle.schedule_text.specs.Words.{words_of}
use Rattle.schedule_text.proofs.WordLaws.{found_then}
use Rattle.schedule_text.proofs.words.read_words.Given as goal

-- what was found and what is left give the answer
abbrev pub invariant-loop-i : goal.invariant-loop-i
invariant-loop-i l = (found_then (vec_items l.words) (between l.start l.i l.line) (drop l.i l.line) ≡ words_of l.line) × (l.start ≤ l.i)
