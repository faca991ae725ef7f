-- What record numbers that are right say: below n, none twice, and all among a few.
use Rattle.std.proofs.Common.{◌≡◌, ℕ, zero, suc, ◌+◌, ◌<◌, ◌≤◌, ◌≢◌, Bool, true, false, cond, not, eqb, ltb, leb, List, [], ◌∷◌, ◌++◌, length, Some, sym, refl, ap, ⊎_elim, arith}
use Rattle.std.specs.Prelude.{filter}
use Rattle.std.specs.List.{AllByRecursion, slice_get}
use Rattle.std.proofs.lemmas.List.{length-append}
use Rattle.std.proofs.lemmas.List.Sums.{length-filter}
use Rattle.std.proofs.lemmas.Bool.{both_ways, and_parts, or_parts, or_cases, not-true, not_from_false, eqb-true, eqb-false, ltb-true, leb-true}
use Rattle.law.proofs.StampOrder.{some_none}
use Rattle.law.specs.Promises.{Pairwise, StandsIn}
use Rattle.archive.specs.Names.{all_below, holds, apart, beyond, names_right}
use Rattle.readback.proofs.BackNames.{every, all_join, all_kept}

-- none twice
apart_first : (x : ℕ) (xs : List ℕ) → holds x xs ≡ false → AllByRecursion (◌≢◌ x) xs
apart_first x [] h = tt
apart_first x (y ∷ ys) h = let p = or_parts (eqb y x) (holds x ys) h in (λ e. eqb-false y x p.0 (sym e), apart_first x ys p.1)

apart_says : (xs : List ℕ) → apart xs ≡ true → Pairwise ◌≢◌ xs
apart_says [] h = tt
apart_says (x ∷ xs) h = let p = and_parts (not (holds x xs)) (apart xs) h in (apart_first x xs (not-true (holds x xs) p.0), apart_says xs p.1)

below_says : (n : ℕ) (xs : List ℕ) → all_below n xs ≡ true → AllByRecursion (λ x. x < n) xs
below_says n [] h = tt
below_says n (x ∷ xs) h = let p = and_parts (ltb x n) (all_below n xs) h in (ltb-true x n p.0, below_says n xs p.1)

-- a number stands in a list, and so in a longer one
stands_more : (y x : ℕ) (xs : List ℕ) → StandsIn xs x → StandsIn (y ∷ xs) x
stands_more y x xs h = (suc h.0, h.1)

stands_left : (xs ys : List ℕ) (i x : ℕ) → slice_get xs i ≡ Some x → StandsIn (xs ++ ys) x
stands_left [] ys i x e = absurd (some_none (sym e))
stands_left (y ∷ xs) ys zero x e = (0, e)
stands_left (y ∷ xs) ys (suc i) x e = stands_more y x (xs ++ ys) (stands_left xs ys i x e)

stands_right : (xs ys : List ℕ) (x : ℕ) → StandsIn ys x → StandsIn (xs ++ ys) x
stands_right [] ys x h = h
stands_right (y ∷ xs) ys x h = stands_more y x (xs ++ ys) (stands_right xs ys x h)

stands_first : (xs ys : List ℕ) → AllByRecursion (StandsIn (xs ++ ys)) xs
stands_first [] ys = tt
stands_first (x ∷ xs) ys = ((0, refl), every (StandsIn (xs ++ ys)) (StandsIn (x ∷ (xs ++ ys))) (λ y h. stands_more x y (xs ++ ys) h) xs (stands_first xs ys))

held_stands : (x : ℕ) (ys : List ℕ) → holds x ys ≡ true → StandsIn ys x
held_stands x [] h = let z : ◌≡◌ {A = ℕ} 0 1 = cc in absurd (omega arith)
held_stands x (y ∷ ys) h = ⊎_elim (λ k. (0, ap Some (eqb-true y x k))) (λ k. stands_more y x ys (held_stands x ys k)) (or_cases (eqb y x) (holds x ys) h)

-- what passes a test stands in what is kept
module _ (t : ℕ → Bool) where
  first_kept : (y : ℕ) (ys : List ℕ) (b : Bool) → t y ≡ b → t y ≡ true → StandsIn (cond b (y ∷ ys) ys) y
  first_kept y ys true e h = (0, refl)
  first_kept y ys false e h = absurd (both_ways (t y) e h)

  more_kept : (y x : ℕ) (ys : List ℕ) (b : Bool) → StandsIn ys x → StandsIn (cond b (y ∷ ys) ys) x
  more_kept y x ys true h = stands_more y x ys h
  more_kept y x ys false h = h

  kept_stands : (ys : List ℕ) → AllByRecursion (λ y. t y ≡ true → StandsIn (filter t ys) y) ys
  kept_stands [] = tt
  kept_stands (y ∷ ys) = (
    first_kept y (filter t ys) (t y) refl,
    every (λ x. t x ≡ true → StandsIn (filter t ys) x) (λ x. t x ≡ true → StandsIn (cond (t y) (y ∷ filter t ys) (filter t ys)) x) (λ x h e. more_kept y x (filter t ys) (t y) (h e)) ys (kept_stands ys),
  )

-- the numbers of looks, and those of puts that are not among them
module _ (looks puts : List ℕ) where
  abbrev others : List ℕ
  others = filter (λ y. not (holds y looks)) puts

  abbrev pub different : List ℕ
  different = looks ++ others

  put_named : (y : ℕ) → (not (holds y looks) ≡ true → StandsIn others y) → StandsIn different y
  put_named y h = by (holds y looks) refl
    where
      by : (b : Bool) → holds y looks ≡ b → StandsIn different y
      by true e = let s = held_stands y looks e in stands_left looks others s.0 y s.1
      by false e = stands_right looks others y (h (not_from_false (holds y looks) e))

  pub record NamesSay (n : ℕ) : Type 0 where
    pub looks_apart : Pairwise ◌≢◌ looks
    pub puts_apart : Pairwise ◌≢◌ puts
    pub few : length different ≤ 16
    pub looks_named : AllByRecursion (StandsIn different) looks
    pub puts_named : AllByRecursion (StandsIn different) puts
    pub inside : AllByRecursion (λ x. x < n) different

  pub names_say : (n : ℕ) → names_right n looks puts ≡ true → NamesSay n
  names_say n h =
      let a = and_parts (all_below n looks) _ h in
      let b = and_parts (all_below n puts) _ a.1 in
      let c = and_parts (apart looks) _ b.1 in
      let d = and_parts (apart puts) (leb (length looks + beyond looks puts) 16) c.1 in
      let f : length looks + beyond looks puts ≤ 16 = leb-true _ _ d.1 in
      let l = length-append looks others in
      let m = length-filter (λ y. not (holds y looks)) puts in
      record {
        looks_apart = apart_says looks c.0;
        puts_apart = apart_says puts d.0;
        few = omega arith;
        looks_named = stands_first looks others;
        puts_named = every (λ y. not (holds y looks) ≡ true → StandsIn others y) (StandsIn different) put_named puts (kept_stands (λ y. not (holds y looks)) puts);
        inside = all_join (λ x. x < n) looks others (below_says n looks a.0) (all_kept (λ x. x < n) (λ y. not (holds y looks)) puts (below_says n puts b.0));
      }
