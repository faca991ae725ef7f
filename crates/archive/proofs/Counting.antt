-- One turn of a loop over so many places.
use Rattle.std.proofs.Common.{◌≡◌, ℕ, zero, suc, ◌+◌, ◌-◌, ◌*◌, ◌<◌, ◌≤◌, eqb, List, Ok, Err, Result, sym, ap, ◌∙◌, mul-suc, mul-zero, arith}
use Rattle.std.proofs.lemmas.Bool.Decides.{nat_tests}
use Rattle.archive.specs.declared.fault.Fault.{Fault}
use Rattle.archive.specs.Faults.{onward}
use Rattle.archive.specs.Directory.{read_pair, read_pairs}

-- so many steps are left up to the end, of which this holds
pub record Left (step here end : ℕ) (P : ℕ → Type 0) : Type 0 where
  pub steps : ℕ
  pub ends : here + step * steps ≡ end
  pub holds : P steps

-- a step more
pub record More (step here end : ℕ) (P : ℕ → Type 0) : Type 0 where
  pub after : ℕ
  pub within : here + step + step * after ≡ end
  pub held : P (suc after)

pub more : {step here end : ℕ} {P : ℕ → Type 0} → Left step here end P → here < end → More step here end P
more {step} {here} {end} {P} l h = by l.steps l.ends l.holds
  where
    by : (n : ℕ) → here + step * n ≡ end → P n → More step here end P
    by zero e p = absurd (omega (arith, mul-zero step))
    by (suc n) e p = record { after = n; within = omega (arith, mul-suc step n); held = p }

-- the last step
pub last_step : {step here end : ℕ} {P : ℕ → Type 0} → More step here end P → 0 < step → end ≤ here + step → P 1
last_step {step} {here} {end} {P} m s h = by m.after m.within m.held
  where
    by : (n : ℕ) → here + step + step * n ≡ end → P (suc n) → P 1
    by zero e p = p
    by (suc n) e p = absurd (omega (arith, mul-suc step n))

-- what is left is one more than what is left after
pub left : (n i : ℕ) → i < n → n - i ≡ suc (n - (i + 1))
left n i h = omega arith

pub at_left : {Y : Type 0} (F : ℕ → Y) (n i : ℕ) → i < n → F (n - i) ≡ F (suc (n - (i + 1)))
at_left F n i h = ap F (left n i h)

pub at_end : {Y : Type 0} (F : ℕ → Y) (n i : ℕ) → n ≤ i → F (n - i) ≡ F 0
at_end F n i h = let e : n - i ≡ 0 = omega arith in ap F e

pub last : (j i : ℕ) → i < j → eqb (j - (i + 1)) 0 ≡ eqb (i + 1) j
last j i h = grind (arith, nat_tests)

-- a reader that is met, and one that is refused
pub met : {A B : Type 0} {r : Result A Fault} {x : A} (f : A → Result B Fault) → Ok x ≡ r → onward r f ≡ f x
met f e = ap (λ r. onward r f) (sym e)

pub refused : {A B : Type 0} {r : Result A Fault} {y : Fault} (f : A → Result B Fault) → Err y ≡ r → onward r f ≡ Err y
refused f e = ap (λ r. onward r f) (sym e)

pub pairs_more : (bs : List ℕ) (from j i : ℕ) → i < j
    → read_pairs bs (20 + 8 * i) from (j - i) ≡ onward (read_pair bs (20 + 8 * i) from (eqb (i + 1) j)) (λ end. read_pairs bs (20 + 8 * (i + 1)) end (j - (i + 1)))
pairs_more bs from j i h =
    let a : 20 + 8 * i + 8 ≡ 20 + 8 * (i + 1) = omega arith in
    at_left (read_pairs bs (20 + 8 * i) from) j i h
    ∙ ap (λ b. onward (read_pair bs (20 + 8 * i) from b) (λ end. read_pairs bs (20 + 8 * i + 8) end (j - (i + 1)))) (last j i h)
    ∙ ap (λ at. onward (read_pair bs (20 + 8 * i) from (eqb (i + 1) j)) (λ end. read_pairs bs at end (j - (i + 1)))) a

-- the pair at a place, the last where the pairs end behind it
pub pair_next : (bs : List ℕ) (at from end m : ℕ) → at + 8 + 8 * m ≡ end
    → read_pairs bs at from (suc m) ≡ onward (read_pair bs at from (eqb (at + 8) end)) (λ e. read_pairs bs (at + 8) e m)
pair_next bs at from end m h =
    let e : eqb m 0 ≡ eqb (at + 8) end = grind (arith, nat_tests) in
    ap (λ b. onward (read_pair bs at from b) (λ e. read_pairs bs (at + 8) e m)) e
