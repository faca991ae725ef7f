-- What stands at a place is read back there, stamps and values as contents that count alike.
use Rattle.std.proofs.Common.{◌≡◌, ℕ, ◌+◌, ◌<◌, ◌≤◌, List, length, get_or, drop, Some, None, Option, sym, refl, ap, ◌∙◌, subst, arith}
use Rattle.std.proofs.lemmas.List.{length-take, length-drop, get_or-take, get_or-drop}
use Rattle.std.specs.Option.{option_map}
use Rattle.kinds.specs.Bytes.{part}
use Rattle.kinds.specs.Forms.{Form, Formed, Alike}
use Rattle.archive.proofs.Stands.{Stands}
use Rattle.law.proofs.StampOrder.{some_inj}

module _ (bs : List ℕ) where
  pub byte_at : (at k : ℕ) (xs : List ℕ) → Stands bs at xs → k < length xs → get_or bs (at + k) 0 ≡ get_or xs k 0
  byte_at at k xs p h = sym (get_or-drop at bs k 0) ∙ sym (get_or-take (length xs) (drop at bs) k 0 h) ∙ ap (λ ys. get_or ys k 0) p

  pub within : (at : ℕ) (xs : List ℕ) → 0 < length xs → Stands bs at xs → at + length xs ≤ length bs
  within at xs h p = let e = ap length p in let a = length-take (length xs) (drop at bs) in let d = length-drop at bs in omega arith

-- bytes that are read as a content that counts alike
pub record ReadAs {X : Type 0} (f : Form X) (xs : List ℕ) (x : X) : Type 0 where
  pub value : X
  pub is : f.read xs ≡ Some value
  pub alike : Alike f value x

read_as : {X : Type 0} (f : Form X) (x : X) (xs : List ℕ) (r : Option X) → f.read xs ≡ r → option_map f.written r ≡ Some (f.written x) → ReadAs f xs x
read_as f x xs (Some y) e h = record { value = y; is = e; alike = some_inj h }
read_as f x xs None e h = let z : ◌≡◌ {A = ℕ} 0 1 = cc in absurd (omega arith)

pub reads_form : {X : Type 0} (n : ℕ) (f : Form X) → Formed n f → (bs : List ℕ) (at : ℕ) (x : X) → Stands bs at (f.written x) → ReadAs f (part bs at n) x
reads_form n f laws bs at x p =
    let e : part bs at n ≡ f.written x = subst (λ (m : ℕ). part bs at m ≡ f.written x) (laws.wide x) p in
    subst (λ (xs : List ℕ). ReadAs f xs x) (sym e) (read_as f x (f.written x) (f.read (f.written x)) refl (laws.back x))
