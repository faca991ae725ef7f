-- The play's table holds, in 20 bytes a record, what stands there.
use Rattle.std.proofs.Common.{◌≡◌, ℕ, zero, suc, ◌+◌, ◌-◌, ◌*◌, ◌<◌, ◌≤◌, ◌≢◌, Bool, true, false, cond, eqb, List, [], ◌∷◌, ◌++◌, length, take, drop, Some, None, Option, sym, refl, ap, ◌∙◌, subst, ⊎_elim, mul-suc, arith}
use Rattle.std.specs.Option.{option_map}
use Rattle.std.specs.List.{AllByRecursion, flat_map, slice_get}
use Rattle.std.proofs.lemmas.List.{length-append, length-take-le, length-drop, take_at, drop_at, take-take, drop-take, drop-drop, take-append-le, drop-append-le, append_assoc}
use Rattle.std.proofs.lemmas.Bool.{eqb-true, eqb-false, ne_eqb, cases_lt}
use Rattle.kinds.specs.Bytes.{part}
use Rattle.kinds.specs.Forms.{Form, Formed, Alike}
use Rattle.kinds.specs.Stamps.{Order, Same}
use Rattle.model.specs.Rows.{Stood}
use Rattle.law.proofs.RowLaws.{nth_some}
use Rattle.law.proofs.StampOrder.{some_none, some_inj}
use Rattle.law.specs.Account.{StandingAt, put_of, at_opening, under}
use Rattle.law.specs.Daybook.{Put}
use Rattle.law.specs.Promises.{put_numbers}
use Rattle.archive.specs.Laying.{laid_over}
use Rattle.archive.specs.Values.{values_bytes}
use Rattle.archive.specs.Play.{opening_table}
use Rattle.archive.proofs.Laid.{laid_long}
use Rattle.archive.proofs.Stands.{Stands, first, behind}

-- the parts of bytes over which others are laid
module _ (at : ℕ) (xs d : List ℕ) (h : at + length xs ≤ length d) where
  -- what was laid
  pub part_laid : part (laid_over at xs d) at (length xs) ≡ xs
  part_laid =
      ap (take (length xs)) (drop_at (take at d) (xs ++ drop (at + length xs) d) at (length-take-le at d (omega arith))) ∙ take_at xs (drop (at + length xs) d) (length xs) refl

  -- what stands before it, and behind it, stays
  pub part_before : (k w : ℕ) → k + w ≤ at → part (laid_over at xs d) k w ≡ part d k w
  part_before k w l =
      let t = length-take-le at d (omega arith) in
      let u = length-drop k (take at d) in
      let e : k + (at - k) ≡ at = omega arith in
      ap (take w) (drop-append-le k (take at d) (xs ++ drop (at + length xs) d) (omega arith))
      ∙ take-append-le w (drop k (take at d)) (xs ++ drop (at + length xs) d) (omega arith)
      ∙ ap (λ m. take w (drop k (take m d))) (sym e)
      ∙ ap (take w) (drop-take k (at - k) d)
      ∙ take-take w (at - k) (drop k d) (omega arith)

  pub part_behind : (k w : ℕ) → at + length xs ≤ k → part (laid_over at xs d) k w ≡ part d k w
  part_behind k w l =
      let n : ℕ = at + length xs in
      let m : ℕ = k - (at + length xs) in
      let e : k ≡ at + length xs + (k - (at + length xs)) = omega arith in
      let a = length-append (take at d) xs in
      let t = length-take-le at d (omega arith) in
      let q : drop n (laid_over at xs d) ≡ drop n d = ap (drop n) (sym (append_assoc (take at d) xs (drop n d))) ∙ drop_at (take at d ++ xs) (drop n d) n (omega arith) in
      ap (take w) (ap (λ i. drop i (laid_over at xs d)) e ∙ sym (drop-drop m n (laid_over at xs d)) ∙ ap (drop m) q ∙ drop-drop m n d ∙ ap (λ i. drop i d) (sym e))

-- what a put leaves at its record
abbrev pub put_stood : {S R : Type 0} → S → Put R → Stood S R
put_stood s p = record { value = p.value; stamp = s }

-- what stands after one put
abbrev pub one_put : {S R : Type 0} → S → Put R → StandingAt S R → StandingAt S R
one_put s p standing x = cond (eqb x p.number) (Some (put_stood s p)) (standing x)

module _ {S R : Type 0} (o : Order S) (f : Form R) where
  -- the written stamp and the written value
  abbrev pub row_bytes : Stood S R → List ℕ
  row_bytes w = o.form.written w.stamp ++ f.written w.value

  -- the table after one put
  abbrev pub row_put : S → Put R → List ℕ → List ℕ
  row_put s p table = laid_over (20 * p.number) (row_bytes (put_stood s p)) table

  -- a table of n records, at each of which something stands, that holds it
  pub record Held (n : ℕ) (standing : StandingAt S R) (table : List ℕ) : Type 0 where
    pub long : length table ≡ 20 * n
    pub stands : (x : ℕ) → x < n → (w : Stood S R) × (standing x ≡ Some w)
    pub rows : (x : ℕ) (w : Stood S R) → x < n → standing x ≡ Some w → part table (20 * x) 20 ≡ row_bytes w

  -- the same at every record
  pub held_same : (n : ℕ) (here there : StandingAt S R) (table : List ℕ) → ((x : ℕ) → there x ≡ here x) → Held n here table → Held n there table
  held_same n here there table e h = record { long = h.long; stands = λ x l. let u = h.stands x l in (u.0, e x ∙ u.1); rows = λ x w l q. h.rows x w l (sym (e x) ∙ q) }

  module _ (laws : Formed 8 o.form) (formed : Formed 12 f) where
    pub row_long : (w : Stood S R) → length (row_bytes w) ≡ 20
    row_long w = let a = length-append (o.form.written w.stamp) (f.written w.value) in let b = laws.wide w.stamp in let c = formed.wide w.value in omega arith

  -- rows that count alike are the same bytes, and the other way round
  pub alike_rows : (u w : Stood S R) → Same o u.stamp w.stamp → Alike f u.value w.value → row_bytes u ≡ row_bytes w
  alike_rows u w s v = ap (λ xs. xs ++ f.written u.value) s ∙ ap (λ ys. o.form.written w.stamp ++ ys) v

  pub rows_alike : Formed 8 o.form → (u w : Stood S R) → row_bytes u ≡ row_bytes w → Same o u.stamp w.stamp × Alike f u.value w.value
  rows_alike laws u w e = (
    sym (take_at (o.form.written u.stamp) (f.written u.value) 8 (laws.wide u.stamp)) ∙ ap (take 8) e ∙ take_at (o.form.written w.stamp) (f.written w.value) 8 (laws.wide w.stamp),
    sym (drop_at (o.form.written u.stamp) (f.written u.value) 8 (laws.wide u.stamp)) ∙ ap (drop 8) e ∙ drop_at (o.form.written w.stamp) (f.written w.value) 8 (laws.wide w.stamp),
  )

-- the row of a value among rows of 20 bytes
module _ {R : Type 0} (g : R → List ℕ) (wide : (v : R) → length (g v) ≡ 20) where
  rows_long : (vs : List R) → length (flat_map g vs) ≡ 20 * length vs
  rows_long [] = refl
  rows_long (v ∷ vs) = let a = length-append (g v) (flat_map g vs) in let b = wide v in let i = rows_long vs in let m = mul-suc 20 (length vs) in omega arith

  row_in : (vs : List R) (x : ℕ) (v : R) → slice_get vs x ≡ Some v → part (flat_map g vs) (20 * x) 20 ≡ g v
  row_in [] x v e = absurd (some_none (sym e))
  row_in (u ∷ vs) zero v e = take_at (g u) (flat_map g vs) 20 (wide u) ∙ ap g (some_inj e)
  row_in (u ∷ vs) (suc x) v e =
      let m : 20 * suc x ≡ 20 + 20 * x = omega (arith, mul-suc 20 x) in
      ap (λ k. part (g u ++ flat_map g vs) k 20) m
      ∙ ap (take 20) (sym (drop-drop (20 * x) 20 (g u ++ flat_map g vs)))
      ∙ ap (λ ys. part ys (20 * x) 20) (drop_at (g u) (flat_map g vs) 20 (wide u))
      ∙ row_in vs x v e

module _ {S R : Type 0} (o : Order S) (f : Form R) (laws : Formed 8 o.form) (formed : Formed 12 f) where
  -- at first the opening values stand, every stamp least
  abbrev first_row : R → List ℕ
  first_row v = row_bytes o f (record { value = v; stamp = o.least })

  opening_rows : (bs : List ℕ) (vs : List R) (at : ℕ) → Stands bs at (values_bytes f vs) → opening_table (o.form.written o.least) bs at (length vs) ≡ flat_map first_row vs
  opening_rows bs [] at p = refl
  opening_rows bs (v ∷ vs) at p =
      let here : part bs at 12 ≡ f.written v = subst (λ (m : ℕ). part bs at m ≡ f.written v) (formed.wide v) (first bs at (f.written v) (values_bytes f vs) p) in
      let next : Stands bs (at + 12) (values_bytes f vs) = behind bs at 12 (f.written v) (values_bytes f vs) (formed.wide v) p in
      ap (λ xs. (o.form.written o.least ++ xs) ++ opening_table (o.form.written o.least) bs (at + 12) (length vs)) here
      ∙ ap (λ xs. first_row v ++ xs) (opening_rows bs vs (at + 12) next)

  opened_at : (v : Option R) (w : Stood S R) → option_map (λ u. record { value = u; stamp = o.least }) v ≡ Some w → (u : R) × (v ≡ Some u) × (record { value = u; stamp = o.least } ≡ w)
  opened_at (Some u) w e = (u, refl, some_inj e)
  opened_at None w e = absurd (some_none (sym e))

  pub held_opening : (bs : List ℕ) (vs : List R) (at : ℕ) → Stands bs at (values_bytes f vs) → Held o f (length vs) (at_opening o vs) (opening_table (o.form.written o.least) bs at (length vs))
  held_opening bs vs at p =
      subst (λ (t : List ℕ). Held o f (length vs) (at_opening o vs) t) (sym (opening_rows bs vs at p))
      (record {
        long = rows_long first_row (λ v. row_long o f laws formed (record { value = v; stamp = o.least })) vs;
        stands = λ x l. let u = nth_some vs x l in (record { value = u.0; stamp = o.least }, ap (option_map (λ v. record { value = v; stamp = o.least })) u.1);
        rows = λ x w l e.
            let u = opened_at (slice_get vs x) w e in
            row_in first_row (λ v. row_long o f laws formed (record { value = v; stamp = o.least })) vs x u.0 u.1 ∙ ap (row_bytes o f) u.2;
      })

  module _ (n : ℕ) (s : S) (p : Put R) (inside : p.number < n) (standing : StandingAt S R) (table : List ℕ) (h : Held o f n standing table) where
    fits : 20 * p.number + length (row_bytes o f (put_stood s p)) ≤ length table
    fits = let l = h.long in let w = row_long o f laws formed (put_stood s p) in omega arith

    row_after : (x : ℕ) (w : Stood S R) → x < n → (b : Bool) → eqb x p.number ≡ b → cond b (Some (put_stood s p)) (standing x) ≡ Some w → part (row_put o f s p table) (20 * x) 20 ≡ row_bytes o f w
    row_after x w l true q e =
        let r : List ℕ = row_bytes o f (put_stood s p) in
        ap (λ y. part (row_put o f s p table) (20 * y) 20) (eqb-true x p.number q)
        ∙ subst (λ (m : ℕ). part (row_put o f s p table) (20 * p.number) m ≡ r) (row_long o f laws formed (put_stood s p)) (part_laid (20 * p.number) r table fits)
        ∙ ap (row_bytes o f) (some_inj e)
    row_after x w l false q e =
        let r : List ℕ = row_bytes o f (put_stood s p) in
        let k = row_long o f laws formed (put_stood s p) in
        ⊎_elim (λ below. part_before (20 * p.number) r table fits (20 * x) 20 (omega arith))
        (λ above. let d = eqb-false x p.number q in part_behind (20 * p.number) r table fits (20 * x) 20 (let ne : x ≢ p.number = d in omega arith))
        (cases_lt x p.number)
        ∙ h.rows x w l e

    stood_after : (x : ℕ) → x < n → (b : Bool) → (w : Stood S R) × (cond b (Some (put_stood s p)) (standing x) ≡ Some w)
    stood_after x l true = (put_stood s p, refl)
    stood_after x l false = h.stands x l

    pub held_put : Held o f n (one_put s p standing) (row_put o f s p table)
    held_put = record { long = laid_long (20 * p.number) (row_bytes o f (put_stood s p)) table fits ∙ h.long; stands = λ x l. stood_after x l (eqb x p.number); rows = λ x w l e. row_after x w l (eqb x p.number) refl e }

-- a record that no put names
no_put : {R : Type 0} (x : ℕ) (ps : List (Put R)) → AllByRecursion (◌≢◌ x) (put_numbers ps) → put_of x ps ≡ None
no_put x [] h = refl
no_put x (p ∷ ps) h = ap (λ b. cond b (Some p.value) (put_of x ps)) (ne_eqb x p.number h.0) ∙ no_put x ps h.1

-- the first put and then the others are all the puts
pub puts_in_turn : {S R : Type 0} (s : S) (p : Put R) (ps : List (Put R)) (x : ℕ) (w : Option (Stood S R)) → AllByRecursion (◌≢◌ p.number) (put_numbers ps)
    → under s (put_of x (p ∷ ps)) w ≡ under s (put_of x ps) (cond (eqb x p.number) (Some (put_stood s p)) w)
puts_in_turn {S} {R} s p ps x w h = by (eqb x p.number) refl
  where
    by : (b : Bool) → eqb x p.number ≡ b → under s (cond b (Some p.value) (put_of x ps)) w ≡ under s (put_of x ps) (cond b (Some (put_stood s p)) w)
    by true e = ap (λ v. under s v (Some (put_stood s p))) (sym (ap (λ y. put_of y ps) (eqb-true x p.number e) ∙ no_put p.number ps h))
    by false e = refl
