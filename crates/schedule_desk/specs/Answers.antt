-- What the answer of a call prints.
use Rattle.std.specs.Prelude.{ℕ, ◌+◌, min, Bool, cond, List, [], ◌∷◌, ◌++◌, codes, decimal, Result, Ok, Err}
use Rattle.model.specs.Refusals.{refusal_number}
use Rattle.model.specs.declared.refusal.Refusal.{Refusal}
use Rattle.model.specs.declared.verdict.Outcome.{Outcome}
use Rattle.model.specs.declared.verdict.Verdict.{Verdict}
use Rattle.model.specs.declared.verdict.Verdict.TheVariants.{Accepted, Overtaken, Gone, NoPlace}
use Rattle.notation.specs.Text.{Notes}
use Rattle.station.specs.declared.job.Standing.{Standing}
use Rattle.station.specs.declared.job.Standing.TheVariants.{Live, Shut}
use Rattle.schedule_desk.specs.declared.log.Tally.{Tally}
use Rattle.schedule_desk.specs.declared.answer.Answer.{Answer}
use Rattle.schedule_desk.specs.declared.answer.Answer.TheVariants.{Records, Image, Stands, Value, Done, Ticket, Decided, Settled}

abbrev pub verdict_text : {S : Type 0} → Notes S → Verdict S → List ℕ
verdict_text n (Accepted s) = codes "accepted " ++ n.text s
verdict_text n Overtaken = codes "overtaken"
verdict_text n Gone = codes "gone"
verdict_text n NoPlace = codes "no place"

abbrev pub outcome_text : {S : Type 0} → Notes S → Outcome S → List ℕ
outcome_text n o = codes "ticket " ++ (decimal o.ticket ++ 32 ∷ verdict_text n o.verdict)

abbrev pub standing_word : Standing → List ℕ
standing_word Live = codes "live"
standing_word Shut = codes "shut"

abbrev pub answer_text : {S R : Type 0} → Notes S → Notes R → Answer S R → List ℕ
answer_text s r (Records n) = decimal n ++ codes " records"
answer_text s r (Image k) = codes "image " ++ decimal k
answer_text s r (Stands x) = standing_word x
answer_text s r (Value v) = r.text v
answer_text s r Done = codes "done"
answer_text s r (Ticket k) = codes "ticket " ++ decimal k
answer_text s r (Decided o) = outcome_text s o
answer_text s r (Settled v) = verdict_text s v

-- what is said of a call: its answer, or the number of its refusal
abbrev pub said_text : {S R : Type 0} → Notes S → Notes R → Result (Answer S R) Refusal → List ℕ
said_text s r (Ok a) = answer_text s r a
said_text s r (Err e) = codes "refused " ++ decimal (refusal_number e)

-- the line of a call: its words, ': ', and what is said of it
abbrev pub answer_line : {S R : Type 0} → Notes S → Notes R → List ℕ → Result (Answer S R) Refusal → List ℕ
answer_line s r words said = words ++ (codes ": " ++ (said_text s r said ++ 10 ∷ []))

-- a count after one more, which ends at the largest number
abbrev pub one_more : ℕ → ℕ
one_more n = min (n + 1) 18446744073709551615

-- a tally after one more call, which was refused or not
abbrev pub tallied : Bool → Tally → Tally
tallied refused t = record { calls = one_more t.calls; refused = cond refused (one_more t.refused) t.refused }

-- the last line of a run
abbrev pub last_line : Tally → ℕ → List ℕ
last_line t jobs =
    codes "run: " ++ (decimal t.calls ++ (codes " calls, " ++ (decimal t.refused ++ (codes " refused, " ++ (decimal jobs ++ codes " jobs in the journal\n")))))
