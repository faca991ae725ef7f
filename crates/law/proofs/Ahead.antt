-- In a journal in final order, the search for a place ends behind every job whose stamp is not after.
use Rattle.std.proofs.Common.{true≢false, ◌≡◌, ℕ, zero, suc, ◌+◌, ◌<◌, ◌≤◌, Bool, true, false, cond, not, List, [], ◌∷◌, map, fold, length, sym, refl, ap, ◌∙◌, arith}
use Rattle.std.specs.List.{AllByRecursion, insert}
use Rattle.kinds.specs.Stamps.{Order, Ordered}
use Rattle.model.specs.declared.entry.Entry.{Entry}
use Rattle.registrar.specs.declared.journal.Head.{Head}
use Rattle.registrar.specs.Registry.{reached, stepped, steps, ahead, entered}
use Rattle.law.specs.Daybook.{AcceptedJob, job_at}
use Rattle.law.specs.Account.{NeverFalls}
use Rattle.law.proofs.StampOrder.{Lt, Le, lt_le_trans}
use Rattle.law.proofs.Views.{enter_job}

-- how far some steps go together, and that none of them is longer by more than 1 than all behind it
abbrev total : List ℕ → ℕ
total [] = 0
total (d ∷ ds) = d + total ds

abbrev Halving : List ℕ → Type 0
Halving [] = Unit {0}
Halving (d ∷ ds) = (0 < d) × ((d ≤ suc (total ds)) × Halving ds)

module _ {S R : Type 0} (o : Order S) (laws : Ordered o) (lines : List (Entry S R)) (s : S) where
  -- the jobs in front that are not after
  abbrev in_front : List (Head S) → ℕ
  in_front [] = 0
  in_front (j ∷ js) = cond (o.before s j.stamp) 0 (suc (in_front js))

  front_within : (js : List (Head S)) → in_front js ≤ length js
  front_within [] = omega arith
  front_within (j ∷ js) = go (o.before s j.stamp) (front_within js)
    where
      go : (t : Bool) → in_front js ≤ length js → cond t 0 (suc (in_front js)) ≤ suc (length js)
      go true l = omega arith
      go false l = omega arith

  -- where no stamp falls, behind a job that is after none is reached
  none_reached : (b : S) (js : List (Head S)) → Lt o s b → AllByRecursion (λ (a : AcceptedJob S R). Le o b a.stamp) (map (job_at lines) js) → (n : ℕ) → reached o s js n ≡ false
  none_reached b js l h zero = refl
  none_reached b [] l h (suc n) = refl
  none_reached b (j ∷ js) l h (suc zero) = ap not (lt_le_trans o laws s b j.stamp l h.0)
  none_reached b (j ∷ js) l h (suc (suc n)) = none_reached b js l h.1 (suc n)

  reached_front : (js : List (Head S)) → NeverFalls o (map (job_at lines) js) → (n : ℕ) → reached o s js n ≡ true → n ≤ in_front js
  reached_front js f zero e = omega arith
  reached_front [] f (suc n) e = absurd (true≢false (sym e))
  reached_front (j ∷ js) f (suc zero) e = go (o.before s j.stamp) e
    where
      go : (t : Bool) → not t ≡ true → 1 ≤ cond t 0 (suc (in_front js))
      go true e = absurd (true≢false (sym e))
      go false e = omega arith
  reached_front (j ∷ js) f (suc (suc n)) e = go (o.before s j.stamp) refl (reached_front js f.1 (suc n) e)
    where
      go : (t : Bool) → o.before s j.stamp ≡ t → suc n ≤ in_front js → suc (suc n) ≤ cond t 0 (suc (in_front js))
      go true l r = absurd (true≢false (sym e ∙ none_reached j.stamp js l f.0 (suc n)))
      go false l r = omega (arith, r)

  unreached_front : (js : List (Head S)) (n : ℕ) → 0 < n → reached o s js n ≡ false → in_front js < n
  unreached_front js zero p e = absurd (omega arith)
  unreached_front [] (suc n) p e = omega arith
  unreached_front (j ∷ js) (suc zero) p e = go (o.before s j.stamp) e
    where
      go : (t : Bool) → not t ≡ false → cond t 0 (suc (in_front js)) < 1
      go true e = omega arith
      go false e = absurd (true≢false e)
  unreached_front (j ∷ js) (suc (suc n)) p e = go (o.before s j.stamp) (unreached_front js (suc n) (omega arith) e)
    where
      go : (t : Bool) → in_front js < suc n → cond t 0 (suc (in_front js)) < suc (suc n)
      go true l = omega arith
      go false l = omega (arith, l)

  -- each step halves what is left
  stepped_front : (js : List (Head S)) → NeverFalls o (map (job_at lines) js) → (ds : List ℕ) → Halving ds → (place : ℕ) → place ≤ in_front js → in_front js ≤ place + total ds → fold (stepped o s js) place ds ≡ in_front js
  stepped_front js f [] h place l r = omega arith
  stepped_front js f (d ∷ ds) h place l r = go (reached o s js (place + d)) refl (stepped_front js f ds h.1.1)
    where
      go : (t : Bool) → reached o s js (place + d) ≡ t → ((p : ℕ) → p ≤ in_front js → in_front js ≤ p + total ds → fold (stepped o s js) p ds ≡ in_front js)
          → fold (stepped o s js) (cond t (place + d) place) ds ≡ in_front js
      go true e next = let q = reached_front js f (place + d) e in next (place + d) q (omega (arith, r))
      go false e next = let q = unreached_front js (place + d) (omega (arith, h.0)) e in next place l (omega (arith, q, h.1.0))

  ahead_front : (js : List (Head S)) → NeverFalls o (map (job_at lines) js) → length js ≤ 4095 → ahead o s js ≡ in_front js
  ahead_front js f n = stepped_front js f steps (search arith) 0 (omega arith) (let w = front_within js in omega (arith, w))

-- so a head entered is its job entered
module _ {S R : Type 0} (o : Order S) (laws : Ordered o) (lines : List (Entry S R)) (h : Head S) where
  jobs-inserted : (js : List (Head S)) → map (job_at lines) (insert js (in_front {R = R} o laws lines h.stamp js) h) ≡ enter_job o (job_at lines h) (map (job_at lines) js)
  jobs-inserted [] = refl
  jobs-inserted (j ∷ js) = go (o.before h.stamp j.stamp) (jobs-inserted js)
    where
      front : ℕ
      front = in_front {R = R} o laws lines h.stamp js

      go : (t : Bool) → map (job_at lines) (insert js front h) ≡ enter_job o (job_at lines h) (map (job_at lines) js)
          → map (job_at lines) (insert (j ∷ js) (cond t 0 (suc front)) h) ≡ cond t (job_at lines h ∷ job_at lines j ∷ map (job_at lines) js) (job_at lines j ∷ enter_job o (job_at lines h) (map (job_at lines) js))
      go true e = refl
      go false e = ap (λ (r : List (AcceptedJob S R)). job_at lines j ∷ r) e

  pub jobs-entered : (js : List (Head S)) → NeverFalls o (map (job_at lines) js) → length js ≤ 4095
      → map (job_at lines) (entered o h js) ≡ enter_job o (job_at lines h) (map (job_at lines) js)
  jobs-entered js f n = ap (λ m. map (job_at lines) (insert js m h)) (ahead_front o laws lines h.stamp js f n) ∙ jobs-inserted js
