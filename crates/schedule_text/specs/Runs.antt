-- What a schedule prints, and how its run ends.
use Rattle.std.specs.Prelude.{ℕ, ◌+◌, List, [], ◌∷◌, ◌++◌, Some, None, Ok, Err, string_bytes, codes, decimal, Option, Result}
use Rattle.schedule_text.specs.declared.command.Command.{Command}
use Rattle.schedule_text.specs.declared.reason.Reason.{Reason}
use Rattle.schedule_text.specs.declared.run.Stopped.{Stopped}
use Rattle.schedule_text.specs.declared.run.Printout.{Printout}
use Rattle.schedule_text.specs.Answers.{printed}
use Rattle.schedule_text.specs.Lines.{lines_of, line_of}
use Rattle.schedule_text.specs.Reasons.{reason_text}

pub record Told : Type 0 where
  pub text : List ℕ
  pub ending : Result (Unit {0}) Stopped

abbrev pub told : Printout → Told
told p = record { text = string_bytes p.text; ending = p.ending }

-- 'line', its number, and why it is no call
abbrev pub error_text : ℕ → Reason → List ℕ
error_text k reason = codes "line " ++ (decimal k ++ (codes ": " ++ (reason_text reason ++ 10 ∷ [])))

-- what a line adds to what the lines after it print; a line that is no call ends the run
abbrev pub told_line : ℕ → Result (Option Command) Reason → Told → Told
told_line k (Ok None) rest = rest
told_line k (Ok (Some command)) rest = record { text = printed command ++ rest.text; ending = rest.ending }
told_line k (Err reason) rest = record { text = error_text k reason; ending = Err (record { line = k }) }

-- the lines from number k on
abbrev pub told_from : ℕ → List (List ℕ) → Told
told_from k [] = record { text = []; ending = Ok tt }
told_from k (line ∷ lines) = told_line k (line_of line) (told_from (k + 1) lines)

abbrev pub help_text : List ℕ
help_text =
    codes "pick KIND LOWER UPPER\n  a stamp after LOWER and before UPPER, which may be none; KIND is whole or page\nform KIND VALUE\n  the written form of a stamp or value; KIND is whole, page, card or item\nread KIND DIGITS\n  the stamp or value of a written form of 16 or 24 hexadecimal digits\nvalues: whole 65536, page 3/17, card 4:mm:250, item withdrawn, solid:77 or sub:12:4\n"

-- with no input the help
abbrev pub printout : List ℕ → Told
printout [] = record { text = help_text; ending = Ok tt }
printout (c ∷ cs) = told_from 1 (lines_of (c ∷ cs))
