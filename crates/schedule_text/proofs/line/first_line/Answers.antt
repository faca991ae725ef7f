use Rattle.std.proofs.Common.{[]}
use Rattle.schedule_text.proofs.LineLaws.{cut_line, only_line}
use Rattle.schedule_text.proofs.line.first_line.Goals as goal

pub returns-in-Some : goal.returns-in-Some
returns-in-Some c = let f = cut_line c.args.input.now [] _ c.in-Some.ensures in record { lines = λ _. f.lines; shorter = λ _. f.shorter }

pub returns-in-None-clause-lines : goal.returns-in-None-clause-lines
returns-in-None-clause-lines c = only_line c.args.input.now c.in-None.ensures
