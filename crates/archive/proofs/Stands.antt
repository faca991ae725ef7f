-- Bytes that stand at a place of a list.
use Rattle.std.proofs.Common.{◌≡◌, ℕ, ◌+◌, ◌≤◌, List, ◌++◌, length, get_or, take, drop, sym, refl, ap, ◌∙◌, subst, ⊎_elim, arith}
use Rattle.std.proofs.lemmas.List.{length-take, length-drop, length-append, take-take, take_at, drop_at, drop-drop, drop-take, take-append-drop, get_or-take, get_or-drop, get_or_past, take_all}
use Rattle.std.proofs.lemmas.Bool.{cases_lt}
use Rattle.kinds.specs.Bytes.{Bytes, part}

abbrev pub Stands : List ℕ → ℕ → List ℕ → Type 0
Stands bs at xs = part bs at (length xs) ≡ xs

take-sum : (m n : ℕ) (l : List ℕ) → take (m + n) l ≡ take m l ++ take n (drop m l)
take-sum m n l =
    sym (take-append-drop m (take (m + n) l)) ∙ ap (λ xs. xs ++ drop m (take (m + n) l)) (take-take m (m + n) l (omega arith)) ∙ ap (λ ys. take m l ++ ys) (drop-take m n l)

module _ (bs : List ℕ) where
  pub join : (at : ℕ) (xs ys : List ℕ) → Stands bs at xs → Stands bs (at + length xs) ys → Stands bs at (xs ++ ys)
  join at xs ys p q =
      ap (λ n. part bs at n) (length-append xs ys) ∙ take-sum (length xs) (length ys) (drop at bs)
      ∙ ap (λ zs. zs ++ take (length ys) (drop (length xs) (drop at bs))) p
      ∙ ap (λ zs. xs ++ take (length ys) zs) (drop-drop (length xs) at bs)
      ∙ ap (λ zs. xs ++ zs) q

  -- the same place by another name
  pub moved : (xs : List ℕ) {m n : ℕ} → m ≡ n → Stands bs m xs → Stands bs n xs
  moved xs e p = subst (λ (i : ℕ). Stands bs i xs) e p

  whole : (at : ℕ) (xs ys : List ℕ) → Stands bs at (xs ++ ys) → part bs at (length xs + length ys) ≡ xs ++ ys
  whole at xs ys p = ap (λ n. part bs at n) (sym (length-append xs ys)) ∙ p

  pub first : (at : ℕ) (xs ys : List ℕ) → Stands bs at (xs ++ ys) → Stands bs at xs
  first at xs ys p =
      sym (take-take (length xs) (length xs + length ys) (drop at bs) (omega arith)) ∙ ap (take (length xs)) (whole at xs ys p) ∙ take_at xs ys (length xs) refl

  pub second : (at : ℕ) (xs ys : List ℕ) → Stands bs at (xs ++ ys) → Stands bs (at + length xs) ys
  second at xs ys p =
      ap (take (length ys)) (sym (drop-drop (length xs) at bs)) ∙ sym (drop-take (length xs) (length ys) (drop at bs)) ∙ ap (drop (length xs)) (whole at xs ys p) ∙ drop_at xs ys (length xs) refl

  -- what stands behind a front of a length, and such a front with what stands behind it
  pub behind : (at n : ℕ) (xs ys : List ℕ) → length xs ≡ n → Stands bs at (xs ++ ys) → Stands bs (at + n) ys
  behind at n xs ys e p = moved ys (ap (λ m. at + m) e) (second at xs ys p)

  pub join_behind : (at n : ℕ) (xs ys : List ℕ) → length xs ≡ n → Stands bs at xs → Stands bs (at + n) ys → Stands bs at (xs ++ ys)
  join_behind at n xs ys e p q = join at xs ys p (moved ys (ap (λ m. at + m) (sym e)) q)

  pub bytes_part : Bytes bs → (at w : ℕ) → Bytes (part bs at w)
  bytes_part b at w k =
      ⊎_elim (λ h. let e : get_or (part bs at w) k 0 ≡ get_or bs (at + k) 0 = get_or-take w (drop at bs) k 0 h ∙ get_or-drop at bs k 0 in let t = b (at + k) in omega arith)
      (λ h. let l = length-take w (drop at bs) in let e : get_or (part bs at w) k 0 ≡ 0 = get_or_past (part bs at w) k 0 (omega arith) in omega arith)
      (cases_lt k w)

  pub part_length : (at w : ℕ) → at + w ≤ length bs → length (part bs at w) ≡ w
  part_length at w h = let l = length-take w (drop at bs) in let d = length-drop at bs in omega arith

-- what stands at the start and is as long as the list is the list
pub all_of : (bs xs : List ℕ) → Stands bs 0 xs → length bs ≡ length xs → bs ≡ xs
all_of bs xs p e = sym (take_all (length xs) bs (omega arith)) ∙ p

pub of_all : (xs : List ℕ) → Stands xs 0 xs
of_all xs = take_all (length xs) xs (omega arith)
