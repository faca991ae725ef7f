-- The record numbers of a neat job are right: below n, none twice, and at most 16 different ones.
use Rattle.std.proofs.Common.{◌≡◌, ℕ, zero, suc, ◌+◌, ◌<◌, ◌≤◌, ◌≢◌, Bool, true, false, cond, not, eqb, ltb, List, [], ◌∷◌, ◌++◌, length, Some, sym, refl, ap, subst, ⊎_elim, arith}
use Rattle.std.specs.Prelude.{filter}
use Rattle.std.specs.Cmp.{IsEquivalence}
use Rattle.std.specs.List.{AllByRecursion, IsDistinct, slice_get}
use Rattle.std.proofs.lemmas.List.{length-append, length-map}
use Rattle.std.proofs.lemmas.List.Sums.{length-filter}
use Rattle.std.proofs.lemmas.Map.Made.{length-le_from_is_member}
use Rattle.std.proofs.lemmas.Bool.{and_from, or_from, or_left, or_right, or_cases, or_parts, not-true, not_from_false, eqb-true, eqb-false, eq-eqb, ne_eqb, lt-ltb, le-leb}
use Rattle.std.proofs.lemmas.Bool.Decides.{nat_tests}
use Rattle.kinds.specs.Stamps.{Order}
use Rattle.law.proofs.StampOrder.{some_none, some_inj}
use Rattle.law.specs.Daybook.{Look, Put, AcceptedJob}
use Rattle.law.specs.Promises.{Pairwise, StandsIn, NeatJob, look_numbers, put_numbers}
use Rattle.archive.specs.Names.{all_below, holds, apart, beyond, names_right}

-- lists, member by member
module _ {A : Type 0} (P : A → Type 0) where
  pub every : (Q : A → Type 0) → ((x : A) → P x → Q x) → (xs : List A) → AllByRecursion P xs → AllByRecursion Q xs
  every Q f [] h = tt
  every Q f (x ∷ xs) h = (f x h.0, every Q f xs h.1)

  pub all_join : (xs ys : List A) → AllByRecursion P xs → AllByRecursion P ys → AllByRecursion P (xs ++ ys)
  all_join [] ys h k = k
  all_join (x ∷ xs) ys h k = (h.0, all_join xs ys h.1 k)

  all_first : (t : Bool) (x : A) (xs : List A) → P x → AllByRecursion P xs → AllByRecursion P (cond t (x ∷ xs) xs)
  all_first true x xs h k = (h, k)
  all_first false x xs h k = k

  pub all_kept : (t : A → Bool) (xs : List A) → AllByRecursion P xs → AllByRecursion P (filter t xs)
  all_kept t [] h = tt
  all_kept t (x ∷ xs) h = all_first (t x) x (filter t xs) h.0 (all_kept t xs h.1)

passed_first : {A : Type 0} (t : A → Bool) (b : Bool) (x : A) (xs : List A) → t x ≡ b → AllByRecursion (λ y. t y ≡ true) xs → AllByRecursion (λ y. t y ≡ true) (cond b (x ∷ xs) xs)
passed_first t true x xs e k = (e, k)
passed_first t false x xs e k = k

all_passed : {A : Type 0} (t : A → Bool) (xs : List A) → AllByRecursion (λ y. t y ≡ true) (filter t xs)
all_passed t [] = tt
all_passed t (x ∷ xs) = passed_first t (t x) x (filter t xs) refl (all_passed t xs)

module _ {A : Type 0} (D : A → A → Type 0) where
  pairs_first : (t : Bool) (x : A) (xs : List A) → AllByRecursion (D x) xs → Pairwise D xs → Pairwise D (cond t (x ∷ xs) xs)
  pairs_first true x xs h k = (h, k)
  pairs_first false x xs h k = k

  pairs_kept : (t : A → Bool) (xs : List A) → Pairwise D xs → Pairwise D (filter t xs)
  pairs_kept t [] h = tt
  pairs_kept t (x ∷ xs) h = pairs_first (t x) x (filter t xs) (all_kept (D x) t xs h.0) (pairs_kept t xs h.1)

  pairs_join : (xs ys : List A) → Pairwise D xs → Pairwise D ys → AllByRecursion (λ x. AllByRecursion (D x) ys) xs → Pairwise D (xs ++ ys)
  pairs_join [] ys h k j = k
  pairs_join (x ∷ xs) ys h k j = (all_join (D x) xs ys h.0 j.0, pairs_join xs ys h.1 k j.1)

-- none twice
not_held : (x : ℕ) (xs : List ℕ) → AllByRecursion (◌≢◌ x) xs → holds x xs ≡ false
not_held x [] h = refl
not_held x (y ∷ ys) h = or_from (eqb y x) (holds x ys) (ne_eqb y x (λ e. h.0 (sym e))) (not_held x ys h.1)

pub apart_right : (xs : List ℕ) → Pairwise ◌≢◌ xs → apart xs ≡ true
apart_right [] h = refl
apart_right (x ∷ xs) h = and_from (not (holds x xs)) (apart xs) (not_from_false (holds x xs) (not_held x xs h.0)) (apart_right xs h.1)

pub below_right : (n : ℕ) (xs : List ℕ) → AllByRecursion (λ x. x < n) xs → all_below n xs ≡ true
below_right n [] h = refl
below_right n (x ∷ xs) h = and_from (ltb x n) (all_below n xs) (lt-ltb x n h.0) (below_right n xs h.1)

-- whether two numbers are equal, the second first
abbrev flipped : ℕ → ℕ → Bool
flipped a b = eqb b a

equal_laws : IsEquivalence flipped
equal_laws = record { refl = λ x. eq-eqb x x refl; symm = λ x y. grind (arith, nat_tests); congr = λ x y z h. ap (λ (w : ℕ). eqb z w) (sym (eqb-true y x h)) }

distinct : (xs : List ℕ) → Pairwise ◌≢◌ xs → IsDistinct flipped xs
unfolding IsDistinct
distinct [] h = tt
distinct (x ∷ xs) h = (every (◌≢◌ x) (λ y. eqb y x ≡ false) (λ y k. ne_eqb y x (λ e. k (sym e))) xs h.0, distinct xs h.1)

-- numbers that are all held by a list
held : (named : List ℕ) (i x : ℕ) → slice_get named i ≡ Some x → holds x named ≡ true
held [] i x e = absurd (some_none (sym e))
held (y ∷ ys) zero x e = or_left (eqb y x) (holds x ys) (eq-eqb y x (some_inj e))
held (y ∷ ys) (suc i) x e = or_right (eqb y x) (holds x ys) (held ys i x e)

all_held : (named xs : List ℕ) → AllByRecursion (λ x. holds x named ≡ true) xs → (q : ℕ) → holds q xs ≡ true → holds q named ≡ true
all_held named [] h q e = let z : ◌≡◌ {A = ℕ} 0 1 = cc in absurd (omega arith)
all_held named (x ∷ xs) h q e =
    ⊎_elim (λ k. subst (λ (y : ℕ). holds y named ≡ true) (eqb-true x q k) h.0) (λ k. all_held named xs h.1 q k) (or_cases (eqb x q) (holds q xs) e)

below_named : (n : ℕ) (named : List ℕ) (i x : ℕ) → AllByRecursion (λ y. y < n) named → slice_get named i ≡ Some x → x < n
below_named n [] i x h e = absurd (some_none (sym e))
below_named n (y ∷ ys) zero x h e = subst (λ (z : ℕ). z < n) (some_inj e) h.0
below_named n (y ∷ ys) (suc i) x h e = below_named n ys i x h.1 e

-- those of the second list that are not in the first are apart from it
apart_from : (xs ys : List ℕ) → AllByRecursion (λ y. not (holds y xs) ≡ true) ys → AllByRecursion (λ x. AllByRecursion (◌≢◌ x) ys) xs
apart_from [] ys h = tt
apart_from (x ∷ xs) ys h = (
  every (λ y. not (holds y (x ∷ xs)) ≡ true) (◌≢◌ x) (λ y k e. eqb-false x y (or_parts (eqb x y) (holds y xs) (not-true (holds y (x ∷ xs)) k)).0 e) ys h,
  apart_from xs ys (every (λ y. not (holds y (x ∷ xs)) ≡ true) (λ y. not (holds y xs) ≡ true)
      (λ y k. not_from_false (holds y xs) (or_parts (eqb x y) (holds y xs) (not-true (holds y (x ∷ xs)) k)).1) ys h),
)

module _ (named looks puts : List ℕ) (few : length named ≤ 16) where
  few_different : Pairwise ◌≢◌ looks → Pairwise ◌≢◌ puts → AllByRecursion (λ x. holds x named ≡ true) looks → AllByRecursion (λ x. holds x named ≡ true) puts → length looks + beyond looks puts ≤ 16
  few_different p q h k =
      let more : List ℕ = filter (λ y. not (holds y looks)) puts in
      let d : Pairwise ◌≢◌ (looks ++ more) = pairs_join ◌≢◌ looks more p (pairs_kept ◌≢◌ (λ y. not (holds y looks)) puts q) (apart_from looks more (all_passed (λ y. not (holds y looks)) puts)) in
      let g = all_join (λ x. holds x named ≡ true) looks more h (all_kept (λ x. holds x named ≡ true) (λ y. not (holds y looks)) puts k) in
      let l : length (looks ++ more) ≤ length named = length-le_from_is_member equal_laws (looks ++ more) named (distinct (looks ++ more) d) (all_held named (looks ++ more) g) in
      let a = length-append looks more in
      let b = length-filter (λ y. not (holds y looks)) puts in
      omega arith

module _ {S R : Type 0} (o : Order S) (n : ℕ) (a : AcceptedJob S R) (neat : NeatJob o n a) where
  holds_all : (xs : List ℕ) → AllByRecursion (StandsIn neat.named) xs → AllByRecursion (λ x. holds x neat.named ≡ true) xs
  holds_all xs h = every (StandsIn neat.named) (λ x. holds x neat.named ≡ true) (λ x k. held neat.named k.0 x k.1) xs h

  all_inside : (xs : List ℕ) → AllByRecursion (StandsIn neat.named) xs → AllByRecursion (λ x. x < n) xs
  all_inside xs h = every (StandsIn neat.named) (λ x. x < n) (λ x k. below_named n neat.named k.0 x neat.inside k.1) xs h

  pub looks_inside : AllByRecursion (λ x. x < n) (look_numbers a.looks)
  looks_inside = all_inside (look_numbers a.looks) neat.looks_named

  pub puts_inside : AllByRecursion (λ x. x < n) (put_numbers a.puts)
  puts_inside = all_inside (put_numbers a.puts) neat.puts_named

  few_records : length (look_numbers a.looks) + beyond (look_numbers a.looks) (put_numbers a.puts) ≤ 16
  few_records = few_different neat.named (look_numbers a.looks) (put_numbers a.puts) neat.few neat.looks_apart neat.puts_apart (holds_all (look_numbers a.looks) neat.looks_named) (holds_all (put_numbers a.puts) neat.puts_named)

  pub names_back : names_right n (look_numbers a.looks) (put_numbers a.puts) ≡ true
  names_back =
      and_from _ _ (below_right n (look_numbers a.looks) looks_inside)
      (and_from _ _ (below_right n (put_numbers a.puts) puts_inside)
      (and_from _ _ (apart_right (look_numbers a.looks) neat.looks_apart)
      (and_from _ _ (apart_right (put_numbers a.puts) neat.puts_apart) (le-leb _ 16 few_records))))

  pub few_looks : length a.looks ≤ 16
  few_looks = let f = few_records in let l = length-map a.looks (λ (l : Look S R). l.number) in omega arith

  pub few_puts : length a.puts ≤ 16
  few_puts =
      let d = length-le_from_is_member equal_laws (put_numbers a.puts) neat.named (distinct (put_numbers a.puts) neat.puts_apart) (all_held neat.named (put_numbers a.puts) (holds_all (put_numbers a.puts) neat.puts_named)) in
      let l = length-map a.puts (λ (p : Put R). p.number) in
      let f = neat.few in
      omega arith
