-- The queue as a list of submissions: a ring of 16 places, read from the oldest on.
use Rattle.std.proofs.Common.{◌≡◌, ℕ, zero, suc, ◌+◌, ◌-◌, ◌*◌, ◌%◌, ◌<◌, ◌≤◌, min, true, ◌≢◌, List, [], ◌∷◌, ◌++◌, length, take, drop, Some, None, Option, sym, refl, ap, ◌∙◌, append_assoc, append-nil, arith}
use Rattle.std.specs.List.{slice_get}
use Rattle.std.proofs.lemmas.Bool.{ne_eqb, eq-eqb}
use Rattle.registrar.specs.declared.queue.Submission.{Submission}
use Rattle.station.specs.Station.{Station, work_of}
use Rattle.registrar.specs.Deciding.{Waiting}
use Rattle.registrar.specs.Registry.{Registry, registry_sized, queued_at, waiting_at, waiting_from, queue_of, next_place, submitted, decided_own}
use Rattle.model.proofs.Laid.{block_new, block_other}
use Rattle.law.proofs.RowLaws.{nth_some, nth-set}
use Rattle.law.proofs.Sizes.{sizes}

-- The queue is the same where its tables and its two numbers are.
module _ {S R : Type 0} (g h : Registry S R) where
  waiting_at_same : (place : ℕ) → queued_at g place ≡ queued_at h place → (m : Option (Submission S)) → waiting_at g place m ≡ waiting_at h place m
  waiting_at_same place e None = refl
  waiting_at_same place e (Some q) = λ i. record { ticket = q.ticket; lower = q.lower; upper = q.upper; entries = take q.count (e i) } ∷ []

  pub waiting_same : g.queue ≡ h.queue → g.queued ≡ h.queued → (p n : ℕ) → waiting_from g p n ≡ waiting_from h p n
  waiting_same a b p zero = refl
  waiting_same a b p (suc n) =
      (λ i. waiting_at_same (p % 16) (ap (λ es. take 16 (drop (16 * (p % 16)) es)) b) (slice_get (a i) (p % 16)) i ++ waiting_same a b (p + 1) n i)

  pub queue_kept : g.queue ≡ h.queue → g.queued ≡ h.queued → g.own.oldest ≡ h.own.oldest → g.own.waiting ≡ h.own.waiting → queue_of g ≡ queue_of h
  queue_kept a b c d = waiting_same a b g.own.oldest (min g.own.waiting 16) ∙ (λ i. waiting_from h (c i) (min (d i) 16))

-- Places count round the ring, each holds a submission, and one more comes last.
module _ {S R : Type 0} (g : Registry S R) where
  abbrev at_place : ℕ → List (Waiting S R)
  at_place p = waiting_at g (p % 16) (slice_get g.queue (p % 16))

  waiting_round : (p q n : ℕ) → p % 16 ≡ q % 16 → waiting_from g p n ≡ waiting_from g q n
  waiting_round p q zero e = refl
  waiting_round p q (suc n) e = (λ i. waiting_at g (e i) (slice_get g.queue (e i)) ++ waiting_round (p + 1) (q + 1) n (omega arith) i)

  waiting_push : (p n : ℕ) → waiting_from g p (suc n) ≡ waiting_from g p n ++ at_place (p + n)
  waiting_push p zero = append-nil (at_place p) ∙ ap at_place (omega arith)
  waiting_push p (suc n) =
      let on : p + 1 + n ≡ p + suc n = omega arith in
      ap (λ ws. at_place p ++ ws) (waiting_push (p + 1) n) ∙ sym (append_assoc (at_place p) (waiting_from g (p + 1) n) (at_place (p + 1 + n)))
      ∙ ap (λ m. waiting_from g p (suc n) ++ at_place m) on

  pub place_taken : registry_sized g ≡ true → (p : ℕ) → (q : Submission S) × (slice_get g.queue (p % 16) ≡ Some q)
  place_taken z p = let t = sizes g z in nth_some g.queue (p % 16) (omega arith)

  length-waiting : registry_sized g ≡ true → (p n : ℕ) → length (waiting_from g p n) ≡ n
  length-waiting z p zero = refl
  length-waiting z p (suc n) =
      let q = place_taken z p in let e = length-waiting z (p + 1) n in rw q.1 (omega arith)

  pub queue_length : registry_sized g ≡ true → length (queue_of g) ≡ min g.own.waiting 16
  queue_length z = length-waiting z g.own.oldest (min g.own.waiting 16)

-- A submission comes last, and the places before it keep theirs.
module _ {S R : Type 0} where
  abbrev submission : Registry S R → Station S R → Submission S
  submission g t = record { ticket = g.own.tickets + 1; lower = t.job.lower; upper = t.job.upper; count = length (work_of t).entries }

  abbrev pub handed_in : Registry S R → Station S R → Waiting S R
  handed_in g t = record { ticket = g.own.tickets + 1; lower = t.job.lower; upper = t.job.upper; entries = (work_of t).entries }

module _ {S R : Type 0} (g : Registry S R) (t : Station S R) (z : registry_sized g ≡ true) (n : length (work_of t).entries ≤ 16) where
  room : 16 * next_place g ≤ length g.queued
  room = let s = sizes g z in omega arith

  place_kept : (p : ℕ) → p ≢ next_place g → waiting_at (submitted g t) p (slice_get (submitted g t).queue p) ≡ waiting_at g p (slice_get g.queue p)
  place_kept p d =
      ap (waiting_at (submitted g t) p) (nth-set g.queue (next_place g) p _ ∙ simp (ne_eqb p (next_place g) d))
      ∙ waiting_at_same (submitted g t) g p (block_other (next_place g) (work_of t).entries g.queued p d n room) (slice_get g.queue p)

  places_kept : (p m : ℕ) → p + m ≤ g.own.oldest + g.own.waiting → g.own.oldest + g.own.waiting < p + 16 → waiting_from (submitted g t) p m ≡ waiting_from g p m
  places_kept p zero a b = refl
  places_kept p (suc m) a b = λ i. place_kept (p % 16) (λ e. omega arith) i ++ places_kept (p + 1) m (omega arith) (omega arith) i

  place_new : waiting_at (submitted g t) (next_place g) (slice_get (submitted g t).queue (next_place g)) ≡ handed_in g t ∷ []
  place_new =
      let q = place_taken g z (g.own.oldest + g.own.waiting) in
      let there : slice_get (submitted g t).queue (next_place g) ≡ Some (submission g t) = nth-set g.queue (next_place g) (next_place g) _ ∙ simp (eq-eqb (next_place g) (next_place g) refl, q.1) in
      ap (waiting_at (submitted g t) (next_place g)) there
      ∙ (λ i. record { ticket = g.own.tickets + 1; lower = t.job.lower; upper = t.job.upper; entries = block_new (next_place g) (work_of t).entries g.queued n room i } ∷ [])

  pub queue-submitted : g.own.waiting < 16 → queue_of (submitted g t) ≡ queue_of g ++ (handed_in g t ∷ [])
  queue-submitted l =
      let more : min (g.own.waiting + 1) 16 ≡ suc g.own.waiting = omega arith in
      let all : g.own.waiting ≡ min g.own.waiting 16 = omega arith in
      ap (waiting_from (submitted g t) g.own.oldest) more ∙ waiting_push (submitted g t) g.own.oldest g.own.waiting
      ∙ (λ i. places_kept g.own.oldest g.own.waiting (omega arith) (omega arith) i ++ place_new i)
      ∙ ap (λ m. waiting_from g g.own.oldest m ++ (handed_in g t ∷ [])) all

-- A decision takes the oldest away.
module _ {S R : Type 0} (g : Registry S R) (z : registry_sized g ≡ true) where
  behind_first : (p m : ℕ) (w : Waiting S R) (ws : List (Waiting S R)) → waiting_from g p m ≡ w ∷ ws → waiting_from g (p + 1) (m - 1) ≡ ws
  behind_first p zero w ws e = cc
  behind_first p (suc m) w ws e =
      let q = place_taken g z p in
      let f = rw q.1 at e in
      let on : suc m - 1 ≡ m = omega arith in
      rw on (cc)

pub queue_decided : {S R : Type 0} (g h : Registry S R) (n : ℕ) (w : Waiting S R) (ws : List (Waiting S R)) → registry_sized g ≡ true → h.queue ≡ g.queue → h.queued ≡ g.queued → h.own ≡ decided_own g.own n → queue_of g ≡ w ∷ ws → queue_of h ≡ ws
queue_decided g h n w ws z a b c e =
    let from = ap (λ r. r.oldest) c in
    let left : min h.own.waiting 16 ≡ min g.own.waiting 16 - 1 = omega (arith, ap (λ r. r.waiting) c) in
    waiting_same h g a b h.own.oldest (min h.own.waiting 16) ∙ (λ i. waiting_from g (from i) (left i))
    ∙ waiting_round g _ (g.own.oldest + 1) (min g.own.waiting 16 - 1) (omega arith) ∙ behind_first g z g.own.oldest (min g.own.waiting 16) w ws e
