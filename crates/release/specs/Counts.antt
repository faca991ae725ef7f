-- What a release run counts.
use Rattle.std.specs.Prelude.{ℕ, ◌+◌, ◌-◌, min, Option, Some, None, slice_set, slice_index}
use Rattle.model.specs.Refusals.{refusal_number}
use Rattle.model.specs.declared.refusal.Refusal.{Refusal}
use Rattle.model.specs.declared.verdict.Verdict.{Verdict}
use Rattle.model.specs.declared.verdict.Verdict.TheVariants.{Accepted, Overtaken, Gone, NoPlace}
use Rattle.release.specs.declared.tally.Tally.{Tally}

-- a count grows by a number, and stays at the last number that it has room for
abbrev pub more : ℕ → ℕ → ℕ
more count n = min (count + n) 18446744073709551615

abbrev pub one_more : ℕ → ℕ
one_more count = more count 1

-- a refusal's place among the thirteen numbers
abbrev pub refused_at : Refusal → ℕ
refused_at r = refusal_number r - 1

-- a call counts as answered, or as refused by its number
abbrev pub with_call : Tally → Option Refusal → Tally
with_call t None = record t { calls = one_more t.calls; answered = one_more t.answered }
with_call t (Some r) = record t { calls = one_more t.calls; refused = slice_set t.refused (refused_at r) (one_more (slice_index t.refused (refused_at r))) }

-- a verdict counts as decided, and by its case
abbrev pub with_verdict : {S : Type 0} → Tally → Verdict S → Tally
with_verdict t (Accepted s) = record t { decided = one_more t.decided; accepted = one_more t.accepted }
with_verdict t Overtaken = record t { decided = one_more t.decided; overtaken = one_more t.overtaken }
with_verdict t Gone = record t { decided = one_more t.decided; gone = one_more t.gone }
with_verdict t NoPlace = record t { decided = one_more t.decided; no_place = one_more t.no_place }

abbrev pub with_shut : Tally → Tally
with_shut t = record t { shut = one_more t.shut }

abbrev pub with_archive : Tally → ℕ → ℕ → Tally
with_archive t equal early = record t { archives = one_more t.archives; equal = more t.equal equal; early = more t.early early }
