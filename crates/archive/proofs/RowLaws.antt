-- Rows of equally many bytes, and what stands in each.
use Rattle.std.proofs.Common.{◌≡◌, ℕ, zero, suc, ◌+◌, ◌-◌, ◌*◌, ◌/◌, ◌<◌, ◌≤◌, ◌&&◌, List, [], ◌∷◌, map, length, get_or, take, drop, is_some, refl, sym, ap, ◌∙◌, mul-suc, mul-zero, arith}
use Rattle.std.proofs.Math.Nat.{mul-div_cancel_left}
use Rattle.std.specs.List.{list_all}
use Rattle.std.specs.Simd.{first_chunks}
use Rattle.std.proofs.lemmas.List.{take-take, drop-drop, drop-take, get_or-take}
use Rattle.kinds.specs.Bytes.{number2, number4, part}
use Rattle.kinds.specs.Stamps.{Order}
use Rattle.archive.specs.Directory.{stated_length}
use Rattle.archive.specs.Names.{numbers}
use Rattle.archive.specs.Blocks.{stamp_at, all_noted}
use Rattle.archive.proofs.Stands.{part_length}

-- a part of a row is a part of the bytes
pub in_row : (k n m at : ℕ) (bs : List ℕ) → k ≤ m → part (take (n + m) (drop at bs)) n k ≡ part bs (at + n) k
in_row k n m at bs h = ap (take k) (drop-take n m (drop at bs)) ∙ take-take k m (drop n (drop at bs)) h ∙ ap (take k) (drop-drop n at bs)

-- the number in the first 2 bytes of a row
pub row_number : (n : ℕ) (xs : List ℕ) → 2 ≤ n → number2 (take 2 xs) ≡ number2 (take n xs)
row_number n xs h =
    let a = get_or-take 2 xs 0 0 (omega arith) in
    let b = get_or-take 2 xs 1 0 (omega arith) in
    let c = get_or-take n xs 0 0 (omega arith) in
    let d = get_or-take n xs 1 0 (omega arith) in
    omega arith

pub numbers_rows : (step : ℕ) → 2 ≤ step → (m at : ℕ) (bs : List ℕ) → map number2 (first_chunks step m (drop at bs)) ≡ numbers bs at step m
numbers_rows step h zero at bs = refl
numbers_rows step h (suc m) at bs =
    ap (λ xs. number2 (take step (drop at bs)) ∷ map number2 (first_chunks step m xs)) (drop-drop step at bs)
    ∙ ap (λ xs. number2 (take step (drop at bs)) ∷ xs) (numbers_rows step h m (at + step) bs)
    ∙ ap (λ x. x ∷ numbers bs (at + step) step m) (sym (row_number step (drop at bs) h))

pub noted_rows : {S : Type 0} (o : Order S) (m at : ℕ) (bs : List ℕ) → list_all (λ row. is_some (stamp_at o row 2)) (first_chunks 22 m (drop at bs)) ≡ all_noted o bs at m
noted_rows o zero at bs = refl
noted_rows o (suc m) at bs =
    ap (λ xs. is_some (o.form.read xs) && list_all (λ row. is_some (stamp_at o row 2)) (first_chunks 22 m (drop 22 (drop at bs)))) (in_row 8 2 20 at bs (omega arith))
    ∙ ap (λ xs. is_some (stamp_at o bs (at + 2)) && list_all (λ row. is_some (stamp_at o row 2)) (first_chunks 22 m xs)) (drop-drop 22 at bs)
    ∙ ap (λ b. is_some (stamp_at o bs (at + 2)) && b) (noted_rows o m (at + 22) bs)

-- the rows of a part are those of the bytes
chunks_taken : (n m : ℕ) (xs : List ℕ) → first_chunks n m (take (n * m) xs) ≡ first_chunks n m xs
chunks_taken n zero xs = refl
chunks_taken n (suc m) xs =
    let e : n * suc m ≡ n + n * m = omega (arith, mul-suc n m) in
    ap (λ k. take n (take k xs) ∷ first_chunks n m (drop n (take k xs))) e
    ∙ ap (λ ys. ys ∷ first_chunks n m (drop n (take (n + n * m) xs))) (take-take n (n + n * m) xs (omega arith))
    ∙ ap (λ ys. take n xs ∷ first_chunks n m ys) (drop-take n (n * m) xs)
    ∙ ap (λ zs. take n xs ∷ zs) (chunks_taken n m (drop n xs))

pub sliced_rows : (n m at : ℕ) (bs : List ℕ) → 0 < n → at + n * m ≤ length bs
    → first_chunks n (length (take (at + n * m - at) (drop at bs)) / n) (take (at + n * m - at) (drop at bs)) ≡ first_chunks n m (drop at bs)
sliced_rows n m at bs h l =
    let e : at + n * m - at ≡ n * m = omega arith in
    ap (λ k. first_chunks n (length (take k (drop at bs)) / n) (take k (drop at bs))) e
    ∙ ap (λ k. first_chunks n (k / n) (take (n * m) (drop at bs))) (part_length bs at (n * m) l)
    ∙ ap (λ k. first_chunks n k (take (n * m) (drop at bs))) (mul-div_cancel_left m h)
    ∙ chunks_taken n m (drop at bs)

-- the row at an index
pub row_at : (n m at i : ℕ) (bs : List ℕ) (d : List ℕ) → i < m → get_or (first_chunks n m (drop at bs)) i d ≡ part bs (at + n * i) n
row_at n zero at i bs d h = absurd (omega arith)
row_at n (suc m) at zero bs d h = ap (λ k. part bs k n) (omega (arith, mul-zero n))
row_at n (suc m) at (suc i) bs d h =
    ap (λ xs. get_or (first_chunks n m xs) i d) (drop-drop n at bs) ∙ row_at n m (at + n) i bs d (omega arith)
    ∙ ap (λ k. part bs k n) (omega (arith, mul-suc n i))

pub row_of : (rows : List (List ℕ)) (n m at i : ℕ) (bs : List ℕ) (d : List ℕ) → rows ≡ first_chunks n m (drop at bs) → i < m → get_or rows i d ≡ part bs (at + n * i) n
row_of rows n m at i bs d e h = ap (λ xs. get_or xs i d) e ∙ row_at n m at i bs d h

-- the length that the pair of a job states
pub pair_length : (bs : List ℕ) (rows : List (List ℕ)) (m i : ℕ) → rows ≡ first_chunks 8 m (drop 20 bs) → i < m → number4 (part (get_or rows i []) 4 4) ≡ stated_length bs (20 + 8 * i)
pair_length bs rows m i e h = ap (λ xs. number4 (part xs 4 4)) (row_of rows 8 m 20 i bs [] e h) ∙ ap number4 (in_row 4 4 4 (20 + 8 * i) bs (omega arith))
