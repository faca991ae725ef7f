-- The lines of an input, and what each one is.
use Rattle.std.specs.Prelude.{ℕ, Bool, true, false, cond, List, [], ◌∷◌, ◌++◌, Some, None, Ok, Err, Option, Result, ◌==◌}
use Rattle.schedule_text.specs.declared.command.Command.{Command}
use Rattle.schedule_text.specs.declared.reason.Reason.{Reason}
use Rattle.schedule_text.specs.Words.{ended, words_of}
use Rattle.schedule_text.specs.Commands.{command_of}

-- the lines of an input of which a line was begun
abbrev pub lines_on : List ℕ → List ℕ → List (List ℕ)
lines_on begun [] = ended begun []
lines_on begun (c ∷ cs) = cond (c == 10) (begun ∷ lines_on [] cs) (lines_on (begun ++ c ∷ []) cs)

-- the lines, each ended by a line feed; the last may lack it
abbrev pub lines_of : List ℕ → List (List ℕ)
lines_of input = lines_on [] input

abbrev pub begins_with : ℕ → List ℕ → Bool
begins_with c [] = false
begins_with c (d ∷ ds) = d == c

-- a line with no word, or whose first word begins with '#'
abbrev pub passed_over : List (List ℕ) → Bool
passed_over [] = true
passed_over (w ∷ ws) = begins_with 35 w

abbrev pub called : Result Command Reason → Result (Option Command) Reason
called (Ok command) = Ok (Some command)
called (Err reason) = Err reason

-- what a line is: a call, none where it is passed over, or the reason why it is no call
abbrev pub line_of : List ℕ → Result (Option Command) Reason
line_of line = cond (passed_over (words_of line)) (Ok None) (called (command_of (words_of line)))
