-- Bytes laid over others, one form after the other.
use Rattle.std.proofs.Common.{◌≡◌, ℕ, ◌+◌, ◌≤◌, List, ◌++◌, length, take, drop, sym, ap, ◌∙◌, arith}
use Rattle.std.proofs.lemmas.List.{length-append, length-take-le, length-drop, take_at, drop_at, drop-drop, append_assoc}
use Rattle.archive.specs.Laying.{laid_over}

module _ (at : ℕ) (xs ys d : List ℕ) (h : at + length xs ≤ length d) where
  front : (take at d ++ xs) ++ drop (at + length xs) d ≡ laid_over at xs d
  front = append_assoc (take at d) xs (drop (at + length xs) d)

  front_long : length (take at d ++ xs) ≡ at + length xs
  front_long = let a = length-append (take at d) xs in let t = length-take-le at d (omega arith) in omega arith

  pub taken : take (at + length xs) (laid_over at xs d) ≡ take at d ++ xs
  taken = ap (take (at + length xs)) (sym front) ∙ take_at (take at d ++ xs) (drop (at + length xs) d) (at + length xs) front_long

  dropped : drop (at + length xs) (laid_over at xs d) ≡ drop (at + length xs) d
  dropped = ap (drop (at + length xs)) (sym front) ∙ drop_at (take at d ++ xs) (drop (at + length xs) d) (at + length xs) front_long

  past : drop (at + length xs + length ys) (laid_over at xs d) ≡ drop (at + length (xs ++ ys)) d
  past =
      sym (drop-drop (length ys) (at + length xs) (laid_over at xs d)) ∙ ap (drop (length ys)) dropped ∙ drop-drop (length ys) (at + length xs) d
      ∙ ap (λ n. drop n d) (let a = length-append xs ys in far (omega arith))
    where
      far : at + length xs + length ys ≡ at + length (xs ++ ys) → at + length xs + length ys ≡ at + length (xs ++ ys)
      far e = e

  -- what is laid right behind is laid with it
  laid_on : laid_over (at + length xs) ys (laid_over at xs d) ≡ laid_over at (xs ++ ys) d
  laid_on =
      ap (λ zs. zs ++ (ys ++ drop (at + length xs + length ys) (laid_over at xs d))) taken
      ∙ ap (λ zs. (take at d ++ xs) ++ (ys ++ zs)) past
      ∙ append_assoc (take at d) xs (ys ++ drop (at + length (xs ++ ys)) d)
      ∙ ap (λ zs. take at d ++ zs) (sym (append_assoc xs ys (drop (at + length (xs ++ ys)) d)))

pub laid_next : (at n : ℕ) (xs ys d e f : List ℕ) → n ≡ at + length xs → at + length xs ≤ length d → e ≡ laid_over at xs d → f ≡ laid_over n ys e → f ≡ laid_over at (xs ++ ys) d
laid_next at n xs ys d e f p h q r = r ∙ ap (λ m. laid_over m ys e) p ∙ ap (laid_over (at + length xs) ys) q ∙ laid_on at xs ys d h

-- a space stays as long as it was
pub laid_long : (at : ℕ) (xs d : List ℕ) → at + length xs ≤ length d → length (laid_over at xs d) ≡ length d
laid_long at xs d h =
    let a = length-append (take at d) (xs ++ drop (at + length xs) d) in
    let b = length-append xs (drop (at + length xs) d) in
    let t = length-take-le at d (omega arith) in
    let r = length-drop (at + length xs) d in
    omega arith
