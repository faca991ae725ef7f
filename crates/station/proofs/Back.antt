-- The first places of a table, and what is laid back on them: one more, one rewritten, or all of them.
use Rattle.std.proofs.Common.{◌≡◌, ℕ, suc, ◌<◌, ◌≤◌, min, List, [], ◌∷◌, ◌++◌, map, length, take, drop, set, sym, ap, ◌∙◌, append-nil, ⊎_elim, arith, length-append, length-set, length-take, take_all}
use lib.ListN.{length-map}
use Rattle.std.proofs.lemmas.List.{append_assoc, set_split, set-append_left, drop_all}
use Rattle.std.proofs.lemmas.Bool.{cases_lt}
use Rattle.model.specs.Tables.{laid}
use Rattle.model.proofs.Laid.{laid_same}

module _ {A : Type 0} where
  -- no more places than there are
  pub take_within : (xs : List A) (n m : ℕ) → m ≡ min n (length xs) → take m xs ≡ take n xs
  take_within xs n m e =
      ⊎_elim (λ (l : n < length xs). let s : m ≡ n = omega arith in rw s) (λ l. take_all m xs (omega arith) ∙ sym (take_all n xs l)) (cases_lt n (length xs))

  -- a table that was taken anew, place by place, to its end
  pub anew : (f : A → A) (xs new : List A) (i : ℕ) → length new ≤ i → take i new ++ map f (drop i new) ≡ xs → new ≡ xs
  anew f xs new i h e = sym (rw (take_all i new h, drop_all i new h) (append-nil new)) ∙ e

  -- the first places and one more
  pub laid_more : (xs : List A) (n : ℕ) (x : A) → n < length xs → laid (take n xs ++ (x ∷ [])) xs ≡ set xs n x
  laid_more xs n x h =
      let l : length (take n xs ++ (x ∷ [])) ≡ suc n = simp (length-append, length-take) (omega arith) in
      rw l (append_assoc (take n xs) (x ∷ []) (drop (suc n) xs) ∙ sym (set_split xs n x h))

  -- all of the first places, each anew
  pub laid-map : (f : A → A) (xs : List A) (n m : ℕ) → m ≡ min n (length xs) → take m xs ≡ take n xs → map f (take m xs) ++ drop m xs ≡ laid (map f (take n xs)) xs
  laid-map f xs n m e t =
      let l : length (map f (take n xs)) ≡ m = simp (length-map, length-take) (sym e) in
      rw (l, t)

  -- one of the first places
  pub laid-set : (xs : List A) (n i : ℕ) (x : A) → i < length (take n xs) → laid (set (take n xs) i x) xs ≡ set xs i x
  laid-set xs n i x h =
      ap (λ m. set (take n xs) i x ++ drop m xs) (length-set (take n xs) i x)
      ∙ sym (set-append_left (take n xs) (drop (length (take n xs)) xs) i x h)
      ∙ ap (λ (ys : List A). set ys i x) (laid_same n xs)
