-- What is counted in a journal.
use Rattle.std.specs.Prelude.{◌≡◌, ℕ, Bool, cond, nat_lt, List, [], ◌∷◌, drop, count_by}
use Rattle.std.specs.List.{zip, list_any}
use Rattle.kinds.specs.Stamps.{Order}
use Rattle.kinds.specs.Bounds.{same}
use Rattle.registrar.specs.declared.journal.Head.{Head}
use Rattle.release.specs.declared.tally.Tally.{Tally}
use Rattle.release.specs.Counts.{one_more, with_archive}

-- the jobs that have the stamp of the job before them
abbrev pub equal_pairs : {S : Type 0} → Order S → List (Head S) → ℕ
equal_pairs o hs = count_by (λ p. same o p.0.stamp p.1.stamp) (zip hs (drop 1 hs))

-- whether a job was accepted later than some job behind it, by their places in the order of acceptance
abbrev pub early : {S : Type 0} → Head S → List (Head S) → Bool
early h behind = list_any (λ g. nat_lt g.place h.place) behind

abbrev pub early_jobs : {S : Type 0} → List (Head S) → ℕ
early_jobs [] = 0
early_jobs (h ∷ hs) = cond (early h hs) (one_more (early_jobs hs)) (early_jobs hs)

-- what was counted last is the archive of a journal
abbrev pub CountedLast : {S : Type 0} → Order S → List (Head S) → Tally → Type 0
CountedLast o journal now = (before : Tally) × (now ≡ with_archive before (equal_pairs o journal) (early_jobs journal))
