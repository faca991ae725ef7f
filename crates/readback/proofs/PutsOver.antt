-- The puts of a block, entered in turn, leave at each record the value that is put there, over what stood.
use Rattle.std.proofs.Common.{◌≡◌, ℕ, zero, suc, ◌+◌, ◌<◌, Bool, true, false, cond, not, eqb, ltb, List, length, set, Some, None, Option, sym, refl, ap, ◌∙◌, subst, length-set}
use Rattle.std.specs.Option.{option_map}
use Rattle.std.specs.List.{slice_get}
use Rattle.std.proofs.lemmas.Bool.{and_parts, or_parts, not-true, ltb-true, eqb-true, eqb-false, ne_eqb}
use Rattle.kinds.specs.Bytes.{number2, part}
use Rattle.kinds.specs.Forms.{Form}
use Rattle.kinds.specs.Stamps.{Order}
use Rattle.model.specs.Rows.{Stood}
use Rattle.law.specs.Daybook.{Put}
use Rattle.law.specs.Account.{put_of, under}
use Rattle.law.proofs.RowLaws.{nth_some, nth-set}
use Rattle.archive.specs.Names.{numbers, all_below, holds, apart}
use Rattle.archive.specs.Played.{value_in, values_after}
use Rattle.archive.specs.Journal.{seen_put, stated_puts}

-- what is put, over what stood
abbrev pub over : {A : Type 0} → Option A → Option A → Option A
over None w = w
over (Some v) w = Some v

-- under a stamp it is the same value
pub value_under : {S R : Type 0} (s : S) (p : Option R) (w : Option (Stood S R)) → option_map (λ (w : Stood S R). w.value) (under s p w) ≡ over p (option_map (λ (w : Stood S R). w.value) w)
value_under s None w = refl
value_under s (Some v) w = refl

eqb_turned : (x y : ℕ) → eqb y x ≡ false → eqb x y ≡ false
eqb_turned x y e = ne_eqb x y (λ i. eqb-false y x e (sym i))

module _ {S R : Type 0} (o : Order S) (f : Form R) (bs : List ℕ) where
  -- a record that none of the numbers names is not put
  named_step : (x n : ℕ) (p : Option R) (ps : List (Put R)) → eqb n x ≡ false → put_of x ps ≡ None → put_of x (seen_put o f n p ps) ≡ None
  named_step x n None ps e h = h
  named_step x n (Some v) ps e h = ap (λ b. cond b (Some v) (put_of x ps)) (eqb_turned x n e) ∙ h

  not_named : (m at x : ℕ) → holds x (numbers bs at 14 m) ≡ false → put_of x (stated_puts o f bs at m) ≡ None
  not_named zero at x h = refl
  not_named (suc m) at x h =
      let a = or_parts (eqb (number2 (part bs at 2)) x) (holds x (numbers bs (at + 14) 14 m)) h in
      named_step x (number2 (part bs at 2)) (f.read (part bs (at + 2) 12)) (stated_puts o f bs (at + 14) m) a.0 (not_named m (at + 14) x a.1)

  abbrev Over : ℕ → ℕ → ℕ → List R → Type 0
  Over m at x vs = slice_get (values_after f bs at vs m) x ≡ over (put_of x (stated_puts o f bs at m)) (slice_get vs x)

  abbrev Named : ℕ → ℕ → List R → Type 0
  Named m at vs = (all_below (length vs) (numbers bs at 14 m) ≡ true) × (apart (numbers bs at 14 m) ≡ true)

  -- a put: its record is not put again
  set_over : (m at x n : ℕ) (v : R) (vs : List R) → n < length vs → holds n (numbers bs at 14 m) ≡ false → Over m at x (set vs n v)
      → slice_get (values_after f bs at (set vs n v) m) x ≡ over (cond (eqb x n) (Some v) (put_of x (stated_puts o f bs at m))) (slice_get vs x)
  set_over m at x n v vs l h ih = ih ∙ by (eqb x n) refl
    where
      by : (t : Bool) → eqb x n ≡ t → over (put_of x (stated_puts o f bs at m)) (slice_get (set vs n v) x) ≡ over (cond t (Some v) (put_of x (stated_puts o f bs at m))) (slice_get vs x)
      by true e =
          let i : x ≡ n = eqb-true x n e in
          let a = nth_some vs n l in
          ap (λ p. over p (slice_get (set vs n v) x)) (ap (λ y. put_of y (stated_puts o f bs at m)) i ∙ not_named m at n h)
          ∙ nth-set vs n x v
          ∙ ap (λ b. cond b (option_map (λ _. v) (slice_get vs x)) (slice_get vs x)) e
          ∙ ap (option_map (λ _. v)) (ap (slice_get vs) i ∙ a.1)
      by false e =
          ap (over (put_of x (stated_puts o f bs at m))) (nth-set vs n x v ∙ ap (λ b. cond b (option_map (λ _. v) (slice_get vs x)) (slice_get vs x)) e)

  over_step : (m at x n : ℕ) (vs : List R) (p : Option R) → n < length vs → holds n (numbers bs at 14 m) ≡ false → Named m at vs → ((ws : List R) → Named m at ws → Over m at x ws)
      → slice_get (values_after f bs at (value_in p vs n) m) x ≡ over (put_of x (seen_put o f n p (stated_puts o f bs at m))) (slice_get vs x)
  over_step m at x n vs None l h d ih = ih vs d
  over_step m at x n vs (Some v) l h d ih =
      set_over m at x n v vs l h
      (ih (set vs n v) (subst (λ (i : ℕ). all_below i (numbers bs at 14 m) ≡ true) (sym (length-set vs n v)) d.0, d.1))

  pub puts_over : (m at x : ℕ) (vs : List R) → Named m at vs → Over m at x vs
  puts_over zero at x vs d = refl
  puts_over (suc m) at x vs d =
      let n : ℕ = number2 (part bs at 2) in
      let b = and_parts (ltb n (length vs)) (all_below (length vs) (numbers bs (at + 14) 14 m)) d.0 in
      let a = and_parts (not (holds n (numbers bs (at + 14) 14 m))) (apart (numbers bs (at + 14) 14 m)) d.1 in
      over_step m (at + 14) x n vs (f.read (part bs (at + 2) 12)) (ltb-true _ _ b.0) (not-true _ a.0) (b.1, a.1) (puts_over m (at + 14) x)

  -- the puts leave as many values
  in_length : (n : ℕ) (p : Option R) (vs : List R) → length (value_in p vs n) ≡ length vs
  in_length n None vs = refl
  in_length n (Some v) vs = length-set vs n v

  pub after_length : (m at : ℕ) (vs : List R) → length (values_after f bs at vs m) ≡ length vs
  after_length zero at vs = refl
  after_length (suc m) at vs =
      after_length m (at + 14) (value_in (f.read (part bs (at + 2) 12)) vs (number2 (part bs at 2))) ∙ in_length (number2 (part bs at 2)) (f.read (part bs (at + 2) 12)) vs
