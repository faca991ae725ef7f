-- What is known of looks and puts that were read, the first and the others behind it.
use Rattle.std.proofs.Common.{◌≡◌, ℕ, zero, suc, ◌+◌, Bool, true, ◌&&◌, List, ◌∷◌, length, is_some, Some, None, Ok, Option, refl, ap, ◌∙◌, subst, arith}
use Rattle.kinds.specs.Bytes.{number2, part}
use Rattle.kinds.specs.Forms.{Form}
use Rattle.kinds.specs.Stamps.{Order}
use Rattle.law.specs.Daybook.{Look, Put}
use Rattle.archive.specs.Values.{read_values}
use Rattle.archive.specs.Blocks.{stamp_at, all_noted}
use Rattle.archive.specs.Journal.{seen_look, stated_looks, seen_put, stated_puts}
use Rattle.archive.proofs.Fields.{value_met}
use Rattle.archive.proofs.Places.{next_look_value, next_put_value}

-- where a stamp and what follows it are right, both are
stamp_met : {S : Type 0} (u : Option S) (b : Bool) → (is_some u && b) ≡ true → (s : S) × (u ≡ Some s) × (b ≡ true)
stamp_met (Some s) b h = (s, refl, h)
stamp_met None b h = let z : ◌≡◌ {A = ℕ} 0 1 = cc in absurd (omega arith)

module _ {S R : Type 0} (o : Order S) (f : Form R) (bs : List ℕ) where
  abbrev look_there : ℕ → S → R → Look S R
  look_there at s v = record { number = number2 (part bs at 2); saw = record { value = v; stamp = s } }

  abbrev put_there : ℕ → R → Put R
  put_there at v = record { number = number2 (part bs at 2); value = v }

  -- the first look
  pub record LookSays (m at : ℕ) : Type 0 where
    pub stamp : S
    pub stamped : stamp_at o bs (at + 2) ≡ Some stamp
    pub value : R
    pub valued : f.read (part bs (at + 10) 12) ≡ Some value
    pub noted : all_noted o bs (at + 22) m ≡ true
    pub rest : read_values f bs (at + 22 + 10) 22 m ≡ Ok tt
    pub states : stated_looks o f bs at (suc m) ≡ look_there at stamp value ∷ stated_looks o f bs (at + 22) m

  pub look_says : (m at : ℕ) → all_noted o bs at (suc m) ≡ true → read_values f bs (at + 10) 22 (suc m) ≡ Ok tt → LookSays m at
  look_says m at h q =
      let s = stamp_met (stamp_at o bs (at + 2)) (all_noted o bs (at + 22) m) h in
      let v = value_met (at + 10) (f.read (part bs (at + 10) 12)) (read_values f bs (at + 10 + 22) 22 m) q in
      let ls : List (Look S R) = stated_looks o f bs (at + 22) m in
      record {
        stamp = s.0;
        stamped = s.1;
        value = v.0;
        valued = v.1;
        noted = s.2;
        rest = subst (λ (i : ℕ). read_values f bs i 22 m ≡ Ok tt) (next_look_value at) v.2;
        states = ap (λ u. seen_look o f (number2 (part bs at 2)) u (f.read (part bs (at + 10) 12)) ls) s.1 ∙ ap (λ p. seen_look o f (number2 (part bs at 2)) (Some s.0) p ls) v.1;
      }

  -- as many looks are stated as were read
  pub looks_stated : (m at : ℕ) → all_noted o bs at m ≡ true → read_values f bs (at + 10) 22 m ≡ Ok tt → length (stated_looks o f bs at m) ≡ m
  looks_stated zero at h q = refl
  looks_stated (suc m) at h q = let z = look_says m at h q in ap length z.states ∙ ap suc (looks_stated m (at + 22) z.noted z.rest)

  -- the first put
  pub record PutSays (m at : ℕ) : Type 0 where
    pub value : R
    pub valued : f.read (part bs (at + 2) 12) ≡ Some value
    pub rest : read_values f bs (at + 14 + 2) 14 m ≡ Ok tt
    pub states : stated_puts o f bs at (suc m) ≡ put_there at value ∷ stated_puts o f bs (at + 14) m

  pub put_says : (m at : ℕ) → read_values f bs (at + 2) 14 (suc m) ≡ Ok tt → PutSays m at
  put_says m at q =
      let v = value_met (at + 2) (f.read (part bs (at + 2) 12)) (read_values f bs (at + 2 + 14) 14 m) q in
      record {
        value = v.0;
        valued = v.1;
        rest = subst (λ (i : ℕ). read_values f bs i 14 m ≡ Ok tt) (next_put_value at) v.2;
        states = ap (λ p. seen_put o f (number2 (part bs at 2)) p (stated_puts o f bs (at + 14) m)) v.1;
      }

  -- as many puts are stated as were read
  pub puts_stated : (m at : ℕ) → read_values f bs (at + 2) 14 m ≡ Ok tt → length (stated_puts o f bs at m) ≡ m
  puts_stated zero at q = refl
  puts_stated (suc m) at q = let z = put_says m at q in ap length z.states ∙ ap suc (puts_stated m (at + 14) z.rest)
