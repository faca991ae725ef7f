-- What a run has printed, and what the lines that are left add.
use Rattle.std.proofs.Common.{◌≡◌, ℕ, List, [], ◌∷◌, ◌++◌, length, Ok, ap, arith}
use Rattle.schedule_text.specs.Runs.{Told, help_text, printout}

-- text before what is told
abbrev pub before : List ℕ → Told → Told
before xs t = record { text = xs ++ t.text; ending = t.ending }

-- with no input the help is printed
pub no_input : (ys input : List ℕ) → length input ≡ 0 → ys ≡ help_text → record { text = ys; ending = Ok tt } ≡ printout input
no_input ys [] h e = ap (λ zs. record { text = zs; ending = Ok tt }) e
no_input ys (c ∷ cs) h e = absurd (omega arith)
