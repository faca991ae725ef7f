-- What a chain over the entries of a sheet comes to: a bound folded from what some entries give, a test of some entries, and the first entry for a record.
use Rattle.std.proofs.Common.{◌≡◌, ℕ, suc, ◌+◌, Bool, true, false, cond, eqb, ◌&&◌, ◌||◌, List, [], ◌∷◌, Some, None, Option, sym, refl, ap, ◌∙◌, arith}
use Rattle.std.specs.List.{fold, filter, filter_map, cons_option, enumerate_from, find, list_any}
use Rattle.std.specs.Option.{option_map}
use Rattle.model.specs.declared.entry.Entry.{Entry}
use Rattle.station.specs.Heard.{one_on, found_at}

-- F goes on from a bound by what g gives of each element that passes the test
module _ {X Y B : Type 0} (test : X → Bool) (g : X → Option Y) (step : B → Y → B) (bounded : B → Option Y → B) (none : (b : B) → bounded b None ≡ b) (some : (b : B) (y : Y) → bounded b (Some y) ≡ step b y) (F : List X → B → B) (end : (b : B) → F [] b ≡ b) (next : (x : X) (xs : List X) (b : B) → F (x ∷ xs) b ≡ F xs (cond (test x) (bounded b (g x)) b)) where
  pub bounds-fold : (xs : List X) (b : B) → fold step b (filter_map g (filter test xs)) ≡ F xs b
  bounds-fold [] b = sym (end b)
  bounds-fold (x ∷ xs) b = by_test (test x) (bounds-fold xs) ∙ sym (next x xs b)
    where
      by_gift : (o : Option Y) → ((c : B) → fold step c (filter_map g (filter test xs)) ≡ F xs c) → fold step b (cons_option o (filter_map g (filter test xs))) ≡ F xs (bounded b o)
      by_gift None h = h b ∙ ap (F xs) (sym (none b))
      by_gift (Some y) h = h (step b y) ∙ ap (F xs) (sym (some b y))

      by_test : (t : Bool) → ((c : B) → fold step c (filter_map g (filter test xs)) ≡ F xs c) → fold step b (filter_map g (cond t (x ∷ filter test xs) (filter test xs))) ≡ F xs (cond t (bounded b (g x)) b)
      by_test true h = by_gift (g x) h
      by_test false h = h b

-- F tells whether an element passes both tests
module _ {X : Type 0} (test p : X → Bool) (F : List X → Bool) (end : F [] ≡ false) (next : (x : X) (xs : List X) → F (x ∷ xs) ≡ ((test x && p x) || F xs)) where
  pub any-filter : (xs : List X) → list_any p (filter test xs) ≡ F xs
  any-filter [] = sym end
  any-filter (x ∷ xs) = by_test (test x) (any-filter xs) ∙ sym (next x xs)
    where
      by_test : (t : Bool) → list_any p (filter test xs) ≡ F xs → list_any p (cond t (x ∷ filter test xs) (filter test xs)) ≡ ((t && p x) || F xs)
      by_test true h = ap (λ b. p x || b) h
      by_test false h = h

module _ {S R : Type 0} where
  -- a place counted from one place on, and from the next
  abbrev counted : ℕ → ℕ × Entry S R → ℕ × Entry S R
  counted i p = (i + p.0, p.1)

  counted_on : (i : ℕ) (o : Option (ℕ × Entry S R)) → option_map (counted (i + 1)) o ≡ option_map (counted i) (option_map one_on o)
  counted_on i None = refl
  counted_on i (Some p) = let e : i + 1 + p.0 ≡ i + suc p.0 = omega arith in ap (λ n. Some (n, p.1)) e

  counted_all : (o : Option (ℕ × Entry S R)) → option_map (counted 0) o ≡ o
  counted_all None = refl
  counted_all (Some p) = let e : 0 + p.0 ≡ p.0 = omega arith in ap (λ n. Some (n, p.1)) e

  found_from : (x : ℕ) (es : List (Entry S R)) (i : ℕ) → find (λ p. eqb x p.1.number) (enumerate_from i es) ≡ option_map (counted i) (found_at x es)
  found_from x [] i = refl
  found_from x (e ∷ es) i = by_number (eqb x e.number) (found_from x es (i + 1))
    where
      by_number : (b : Bool) → find (λ p. eqb x p.1.number) (enumerate_from (i + 1) es) ≡ option_map (counted (i + 1)) (found_at x es) → cond b (Some (i, e)) (find (λ p. eqb x p.1.number) (enumerate_from (i + 1) es)) ≡ option_map (counted i) (cond b (Some (0, e)) (option_map one_on (found_at x es)))
      by_number true h = let z : i ≡ i + 0 = omega arith in ap (λ n. Some (n, e)) z
      by_number false h = h ∙ counted_on i (found_at x es)

  pub found_at-find : (x : ℕ) (es : List (Entry S R)) → find (λ p. eqb x p.1.number) (enumerate_from 0 es) ≡ found_at x es
  found_at-find x es = found_from x es 0 ∙ counted_all (found_at x es)
