-- Membership, lists whose members stand in a relation two by two, and arrangements.
use Rattle.std.proofs.Common.{◌≡◌, ◌⊎◌, List, [], ◌∷◌, ◌++◌, sym, refl, ◌∙◌, subst, inl, inr, ⊎_elim}
use mathlib.Core.List.{Memᴰ, Permᴰ}
use mathlib.Core.List.Permᴰ
use Rattle.std.specs.List.{AllByRecursion}

abbrev pub In : {A : Type 0} → A → List A → Type 0
In a xs = Memᴰ a xs

pub in_none : {A C : Type 0} {a : A} → In a [] → C
in_none m = elim m [ ]

pub in_cons : {A : Type 0} {a x : A} {xs : List A} → In a (x ∷ xs) → (a ≡ x) ⊎ In a xs
in_cons (Memᴰ.head e) = inl e
in_cons (Memᴰ.tail m) = inr m

pub here : {A : Type 0} {a : A} {xs : List A} → In a (a ∷ xs)
here = Memᴰ.head refl

pub there : {A : Type 0} {a x : A} {xs : List A} → In a xs → In a (x ∷ xs)
there m = Memᴰ.tail m

pub all_in : {A : Type 0} (P : A → Type 0) {a : A} {xs : List A} → In a xs → AllByRecursion P xs → P a
all_in P (Memᴰ.head e) h = subst P (sym e) h.0
all_in P (Memᴰ.tail m) h = all_in P m h.1

pub in_all : {A : Type 0} (P : A → Type 0) (xs : List A) → ((a : A) → In a xs → P a) → AllByRecursion P xs
in_all P [] h = tt
in_all P (x ∷ xs) h = (h x here, in_all P xs (λ a m. h a (there m)))

pub in_left : {A : Type 0} {a : A} {xs : List A} (ys : List A) → In a xs → In a (xs ++ ys)
in_left ys (Memᴰ.head e) = Memᴰ.head e
in_left ys (Memᴰ.tail m) = Memᴰ.tail (in_left ys m)

pub in_last : {A : Type 0} (xs : List A) (a : A) → In a (xs ++ (a ∷ []))
in_last [] a = here
in_last (x ∷ xs) a = there (in_last xs a)

pub in_push : {A : Type 0} {a : A} (xs : List A) (y : A) → In a (xs ++ (y ∷ [])) → In a xs ⊎ (a ≡ y)
in_push [] y (Memᴰ.head e) = inr e
in_push [] y (Memᴰ.tail m) = in_none m
in_push (x ∷ xs) y (Memᴰ.head e) = inl (Memᴰ.head e)
in_push (x ∷ xs) y (Memᴰ.tail m) = ⊎_elim (λ k. inl (there k)) inr (in_push xs y m)

pub in_arranged : {A : Type 0} {a : A} {xs ys : List A} → Permᴰ xs ys → In a xs → In a ys
in_arranged Permᴰ.nil m = m
in_arranged (Permᴰ.cons e p) (Memᴰ.head f) = Memᴰ.head (f ∙ e)
in_arranged (Permᴰ.cons e p) (Memᴰ.tail m) = Memᴰ.tail (in_arranged p m)
in_arranged (Permᴰ.swap e f) (Memᴰ.head g) = Memᴰ.tail (Memᴰ.head (g ∙ e))
in_arranged (Permᴰ.swap e f) (Memᴰ.tail (Memᴰ.head g)) = Memᴰ.head (g ∙ f)
in_arranged (Permᴰ.swap e f) (Memᴰ.tail (Memᴰ.tail m)) = Memᴰ.tail (Memᴰ.tail m)
in_arranged (Permᴰ.trans p q) m = in_arranged q (in_arranged p m)

-- each member with each that stands behind it
abbrev pub Pairs : {A : Type 0} → (A → A → Type 0) → List A → Type 0
Pairs R [] = Unit {0}
Pairs {A} R (x ∷ xs) = ((y : A) → In y xs → R x y) × Pairs R xs

module _ {A : Type 0} (R : A → A → Type 0) (flip : (x y : A) → R x y → R y x) where
  pub pairs_arranged : {xs ys : List A} → Permᴰ xs ys → Pairs R xs → Pairs R ys
  pairs_arranged Permᴰ.nil h = h
  pairs_arranged (Permᴰ.cons e p) h = (λ y m. subst (λ (z : A). R z y) e (h.0 y (in_arranged (Permᴰ.symm p) m)), pairs_arranged p h.1)
  pairs_arranged (Permᴰ.swap {a} {b} {a'} {b'} {l} e f) h = (first, (λ y m. subst (λ (z : A). R z y) e (h.0 y (there m)), h.1.1))
    where
      first : (y : A) → In y (b' ∷ l) → R a' y
      first y (Memᴰ.head g) = subst (λ (z : A). R a' z) (sym g) (subst (λ (z : A). R a' z) e (subst (λ (z : A). R z a) f (flip a b (h.0 b here))))
      first y (Memᴰ.tail m) = subst (λ (z : A). R z y) f (h.1.0 y m)
  pairs_arranged (Permᴰ.trans p q) h = pairs_arranged q (pairs_arranged p h)

pub pairs_push : {A : Type 0} (R : A → A → Type 0) (xs : List A) (y : A) → Pairs R xs → ((x : A) → In x xs → R x y) → Pairs R (xs ++ (y ∷ []))
pairs_push R [] y h k = (λ z m. in_none m, tt)
pairs_push R (x ∷ xs) y h k = (λ z m. ⊎_elim (h.0 z) (λ e. subst (λ w. R x w) (sym e) (k x here)) (in_push xs y m), pairs_push R xs y h.1 (λ z m. k z (there m)))
