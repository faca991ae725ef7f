-- Numbers that stand at a place, and readers that were met.
use Rattle.std.proofs.Common.{◌≡◌, ℕ, zero, suc, ◌+◌, ◌^◌, ◌<◌, ◌≤◌, Bool, true, false, cond, List, ◌∷◌, length, get_or, take, drop, Some, None, Ok, Err, Option, Result, sym, refl, ap, ◌∙◌, arith, drop-cons}
use Rattle.std.specs.Option.{ok_or}
use Rattle.kinds.specs.Bytes.{be2, be4, number2, number4, Bytes, part}
use Rattle.kinds.specs.ByteLaws.{listed, is_listed, forth2, forth4, back2, back4}
use Rattle.archive.specs.declared.fault.Fault.{Fault}
use Rattle.archive.specs.declared.fault.Fault.TheVariants.{ValueWrong}
use Rattle.archive.specs.Faults.{onward}
use Rattle.archive.proofs.Stands.{Stands, bytes_part, part_length}

pub same2 : (xs : List ℕ) → length xs ≡ 2 → Bytes xs → be2 (number2 xs) ≡ xs
same2 xs h b = forth2 (get_or xs 0 0) (get_or xs 1 0) (b 0) (b 1) ∙ sym (is_listed 2 0 xs h)

pub same4 : (xs : List ℕ) → length xs ≡ 4 → Bytes xs → be4 (number4 xs) ≡ xs
same4 xs h b = forth4 (get_or xs 0 0) (get_or xs 1 0) (get_or xs 2 0) (get_or xs 3 0) (b 0) (b 1) (b 2) (b 3) ∙ sym (is_listed 4 0 xs h)

pub take-listed : (n i : ℕ) (bs : List ℕ) → i + n ≤ length bs → take n (drop i bs) ≡ listed bs i n
take-listed zero i bs h = refl
take-listed (suc n) i bs h = ap (take (suc n)) (drop-cons bs i 0 (omega arith)) ∙ ap (λ ys. get_or bs i 0 ∷ ys) (take-listed n (suc i) bs (omega arith))

module _ (bs : List ℕ) (t : Bytes bs) where
  pub stands4 : (at : ℕ) → at + 4 ≤ length bs → Stands bs at (be4 (number4 (part bs at 4)))
  stands4 at h = sym (same4 (part bs at 4) (part_length bs at 4 h) (bytes_part bs t at 4))

  pub stands2 : (at : ℕ) → at + 2 ≤ length bs → Stands bs at (be2 (number2 (part bs at 2)))
  stands2 at h = sym (same2 (part bs at 2) (part_length bs at 2 h) (bytes_part bs t at 2))

pub reads4 : (bs : List ℕ) (at n : ℕ) → n < 2 ^ 32 → Stands bs at (be4 n) → number4 (part bs at 4) ≡ n
reads4 bs at n h p = ap number4 p ∙ back4 n h

pub reads2 : (bs : List ℕ) (at n : ℕ) → n < 2 ^ 16 → Stands bs at (be2 n) → number2 (part bs at 2) ≡ n
reads2 bs at n h p = ap number2 p ∙ back2 n h

pub guarded : {A : Type 0} (b : Bool) (r : Result A Fault) (e : Fault) (y : A) → cond b r (Err e) ≡ Ok y → (b ≡ true) × (r ≡ Ok y)
guarded true r e y h = (refl, h)
guarded false r e y h = let z : ◌≡◌ {A = ℕ} 0 1 = cc in absurd (omega arith)

pub bound : {A B : Type 0} (r : Result A Fault) (f : A → Result B Fault) (y : B) → onward r f ≡ Ok y → (x : A) × (r ≡ Ok x) × (f x ≡ Ok y)
bound (Ok x) f y h = (x, refl, h)
bound (Err e) f y h = let z : ◌≡◌ {A = ℕ} 0 1 = cc in absurd (omega arith)

pub ok_same : {A : Type 0} (x y : A) → ◌≡◌ {A = Result A Fault} (Ok x) (Ok y) → x ≡ y
ok_same x y h = cc

-- where a value and what follows it are right, both are
pub value_met : {R : Type 0} (at : ℕ) (p : Option R) (rest : Result (Unit {0}) Fault) → onward (ok_or p (ValueWrong at)) (λ _. rest) ≡ Ok tt → (v : R) × (p ≡ Some v) × (rest ≡ Ok tt)
value_met at (Some v) rest q = (v, refl, q)
value_met at None rest q = let z : ◌≡◌ {A = ℕ} 0 1 = cc in absurd (omega arith)
