-- The place of a new head in the journal lies in it, and the shift that makes room for it.
use Rattle.std.proofs.Common.{true≢false, ◌≡◌, ℕ, zero, suc, ◌+◌, ◌-◌, ◌<◌, ◌≤◌, Bool, true, false, cond, List, [], ◌∷◌, ◌++◌, length, take, drop, fold, set, sym, refl, ap, ◌∙◌, append_assoc, arith, length-append, length-drop, length-set, length-take}
use borrow.Rule.Slice.PartMut.{put_mid}
use Rattle.std.specs.List.{insert, between}
use Rattle.std.proofs.lemmas.List.{take_at, drop_at, drop-drop, take-take, take-set, take-set-le, drop-set-lt, get_or-set_same, length-take-le}
use Rattle.std.proofs.lemmas.List.Edits.{between_more, length-insert}
use Rattle.std.proofs.lemmas.Slice.{between_is}
use Rattle.kinds.specs.Stamps.{Order}
use Rattle.model.specs.Tables.{laid}
use Rattle.registrar.specs.declared.journal.Head.{Head}
use Rattle.registrar.specs.Registry.{reached, stepped}

module _ {S : Type 0} (o : Order S) (s : S) where
  -- what is reached is there
  reached_within : (js : List (Head S)) (n : ℕ) → reached o s js n ≡ true → n ≤ length js
  reached_within js zero e = omega arith
  reached_within [] (suc n) e = absurd (true≢false (sym e))
  reached_within (j ∷ js) (suc zero) e = omega arith
  reached_within (j ∷ js) (suc (suc n)) e = let r = reached_within js (suc n) e in omega (arith, r)

  -- so no search ends behind the last job
  pub stepped_within : (js : List (Head S)) (steps : List ℕ) (place : ℕ) → place ≤ length js → fold (stepped o s js) place steps ≤ length js
  stepped_within js [] place l = l
  stepped_within js (step ∷ steps) place l = stepped_within js steps (stepped o s js place step) (go (reached o s js (place + step)) (reached_within js (place + step)))
    where
      go : (t : Bool) → (t ≡ true → place + step ≤ length js) → cond t (place + step) place ≤ length js
      go true r = r refl
      go false r = l

-- A content written behind the first n and turned to place p.
module _ {A : Type 0} (xs : List A) (n p : ℕ) (x : A) (le : p ≤ n) (lt : n < length xs) where
  abbrev middle : List A
  middle = drop p (take n xs)

  -- the part that is turned
  turned : between p (n + 1) (set xs n x) ≡ middle ++ (x ∷ [])
  turned =
      let l : n < length (set xs n x) = simp length-set lt in
      between_more (set xs n x) p n x le l
      ∙ (λ i. (between_is (set xs n x) p n ∙ ap (drop p) (take-set xs n x)) i ++ (get_or-set_same xs n x x lt i ∷ []))

  length_middle : length middle ≡ n - p
  length_middle = simp (length-drop, length-take) (omega arith)

  pub shifted : (part : List A) → part ≡ drop (length (between p (n + 1) (set xs n x)) - 1) (between p (n + 1) (set xs n x)) ++ take (length (between p (n + 1) (set xs n x)) - 1) (between p (n + 1) (set xs n x))
      → put_mid p (n + 1 - p) (set xs n x) part ≡ laid (insert (take n xs) p x) xs
  shifted part e =
      let k : length (middle ++ (x ∷ [])) - 1 ≡ length middle = simp length-append (omega arith) in
      let new : part ≡ x ∷ middle =
      (rw turned at e) ∙ (λ i. drop (k i) (middle ++ (x ∷ [])) ++ take (k i) (middle ++ (x ∷ [])))
      ∙ (λ i. drop_at middle (x ∷ []) (length middle) refl i ++ take_at middle (x ∷ []) (length middle) refl i) in
      let before : take p (set xs n x) ≡ take p (take n xs) = take-set-le p xs n x le ∙ sym (take-take p n xs le) in
      let on : p + (n + 1 - p) ≡ n + 1 = omega arith in
      let behind : drop (n + 1 - p) (drop p (set xs n x)) ≡ drop (n + 1) xs =
      drop-drop (n + 1 - p) p (set xs n x) ∙ ap (λ m. drop m (set xs n x)) on ∙ drop-set-lt (n + 1) xs n x (omega arith) in
      let long : n + 1 ≡ length (insert (take n xs) p x) =
      let a = length-take-le n xs (omega arith) in omega (arith, length-insert (take n xs) p x (omega arith)) in
      (λ i. before i ++ (new i ++ behind i)) ∙ sym (append_assoc (take p (take n xs)) (x ∷ middle) (drop (n + 1) xs))
      ∙ ap (λ m. insert (take n xs) p x ++ drop m xs) long
