-- The journal as a list of jobs: an acceptance enters its job in it, and leaves the lines of the others as they were.
use Rattle.std.proofs.Common.{◌≡◌, ℕ, zero, suc, ◌+◌, ◌*◌, ◌<◌, ◌≤◌, true, List, [], ◌∷◌, map, length, take, drop, sym, refl, ap, ◌∙◌, subst, arith, length-take}
use Rattle.std.specs.List.{AllByRecursion, insert}
use Rattle.std.proofs.lemmas.List.{take_at}
use Rattle.std.proofs.ByRecursion.{All-weaker}
use Rattle.kinds.specs.Stamps.{Ordered, Kind}
use Rattle.model.specs.declared.entry.Entry.{Entry}
use Rattle.registrar.specs.declared.journal.Head.{Head}
use Rattle.model.specs.Tables.{laid_from}
use Rattle.registrar.specs.Deciding.{Waiting}
use Rattle.registrar.specs.Registry.{Registry, registry_sized, ahead, entered, taken_up}
use Rattle.law.specs.Daybook.{AcceptedJob, accepted_job, line_of, job_at, journal_of}
use Rattle.law.specs.Account.{NeverFalls}
use Rattle.law.proofs.Views.{leaf, enter_job}
use Rattle.model.proofs.Laid.{block_new, block_other}
use Rattle.law.proofs.Ahead.{jobs-entered}
use Rattle.law.proofs.Sizes.{sizes, length-entered}

-- the journal is the same where its tables and its count are
pub journal_same : {S R : Type 0} (g h : Registry S R) → g.lines ≡ h.lines → g.heads ≡ h.heads → g.own.jobs ≡ h.own.jobs → journal_of g ≡ journal_of h
journal_same g h a b c = λ i. map (job_at (a i)) (take (c i) (b i))

-- every head has its lines at a place below n, at most 16 of them
abbrev pub PlacedBelow : {S : Type 0} → ℕ → List (Head S) → Type 0
PlacedBelow {S} n heads = AllByRecursion (λ (h : Head S). (h.place < n) × (h.count ≤ 16)) heads

-- a head with its lines below n, entered among such heads
module _ {S : Type 0} where
  placed-inserted : (n m : ℕ) (h : Head S) (js : List (Head S)) → (h.place < n) × (h.count ≤ 16) → PlacedBelow n js → PlacedBelow n (insert js m h)
  placed-inserted n zero h js p q = (p, q)
  placed-inserted n (suc m) h [] p q = (p, tt)
  placed-inserted n (suc m) h (j ∷ js) p q = (q.0, placed-inserted n m h js p q.1)

-- the lines of a place, after others were laid at a later place
module _ {S R : Type 0} where
  lines_kept : (at : ℕ) (new lines : List (Entry S R)) → length new ≤ 16 → 16 * at ≤ length lines → (heads : List (Head S)) → PlacedBelow at heads → map (job_at (laid_from (16 * at) new lines)) heads ≡ map (job_at lines) heads
  lines_kept at new lines n l [] p = refl
  lines_kept at new lines n l (j ∷ js) p = λ i. accepted_job j.stamp j.ticket (map line_of (take j.count (same i))) ∷ lines_kept at new lines n l js p.1 i
    where
      same : take 16 (drop (16 * j.place) (laid_from (16 * at) new lines)) ≡ take 16 (drop (16 * j.place) lines)
      same = block_other at new lines j.place (λ e. omega (arith, p.0.0)) n l

  -- the job whose lines were laid there
  job_new : (at : ℕ) (new lines : List (Entry S R)) (s : S) (ticket : ℕ) → length new ≤ 16 → 16 * at ≤ length lines → job_at (laid_from (16 * at) new lines) (record { stamp = s; ticket = ticket; place = at; count = length new }) ≡ accepted_job s ticket (leaf new)
  job_new at new lines s ticket n l = ap (λ es. accepted_job s ticket (leaf es)) (block_new at new lines n l)

-- An acceptance enters its job in the journal, with its lines at the next place.
module _ {S R : Type 0} (k : Kind S) (g : Registry S R) (w : Waiting S R) (s : S) (z : registry_sized g ≡ true) (j : g.own.jobs < length g.heads) (n : length w.entries ≤ 16) (p : PlacedBelow g.own.jobs (take g.own.jobs g.heads)) where
  abbrev new_head : Head S
  new_head = record { stamp = s; ticket = w.ticket; place = g.own.jobs; count = length w.entries }

  heads_now : take (g.own.jobs + 1) (taken_up k g w s).heads ≡ entered k.order new_head (take g.own.jobs g.heads)
  heads_now = take_at (entered k.order new_head (take g.own.jobs g.heads)) _ (g.own.jobs + 1) (simp (length-entered, length-take) (omega arith))

  pub journal_taken : Ordered k.order → NeverFalls k.order (journal_of g) → journal_of (taken_up k g w s) ≡ enter_job k.order (accepted_job s w.ticket (leaf w.entries)) (journal_of g)
  journal_taken laws falls =
      let room : 16 * g.own.jobs ≤ length g.lines = let t = sizes g z in omega arith in
      let new-lines = (taken_up k g w s).lines in
      let kept : map (job_at new-lines) (take g.own.jobs g.heads) ≡ journal_of g = lines_kept g.own.jobs w.entries g.lines n room (take g.own.jobs g.heads) p in
      ap (map (job_at new-lines)) heads_now
      ∙ jobs-entered k.order laws new-lines new_head (take g.own.jobs g.heads) (subst (λ (js : List (AcceptedJob S R)). NeverFalls k.order js) (sym kept) falls) (let t = sizes g z in let l = length-take g.own.jobs g.heads in omega (arith, l))
      ∙ (λ i. enter_job k.order (job_new g.own.jobs w.entries g.lines s w.ticket n room i) (kept i))

  pub placed_taken : PlacedBelow (taken_up k g w s).own.jobs (take (taken_up k g w s).own.jobs (taken_up k g w s).heads)
  placed_taken =
      rw heads_now (placed-inserted (g.own.jobs + 1) (ahead k.order s (take g.own.jobs g.heads)) new_head (take g.own.jobs g.heads) (omega arith, n)
      (All-weaker (λ (h : Head S). (h.place < g.own.jobs) × (h.count ≤ 16)) (λ (h : Head S). (h.place < g.own.jobs + 1) × (h.count ≤ 16)) (λ h q. (omega arith, q.1)) (take g.own.jobs g.heads) p))
