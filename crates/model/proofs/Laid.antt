-- What a write of new places leaves in a table: at them, before them and behind them.
use Rattle.std.proofs.Common.{◌≡◌, ℕ, zero, suc, ◌+◌, ◌*◌, ◌<◌, ◌≤◌, ◌≢◌, List, [], ◌∷◌, length, take, drop, sym, refl, ap, ◌∙◌, ⊎_elim, arith, length-append, length-drop, length-take}
use Rattle.std.proofs.lemmas.List.{take_at, take-take, drop_at, drop-take, length-take-le}
use Rattle.std.proofs.lemmas.Slice.{take-put_mid_below, drop-put_mid}
use Rattle.std.proofs.lemmas.Bool.{cases_lt}
use Rattle.model.specs.Tables.{laid, laid_from}

module _ {A : Type 0} where
  -- a table keeps its length, and its first places are the new ones
  pub length-laid : (new table : List A) → length new ≤ length table → length (laid new table) ≡ length table
  length-laid new table h = simp (length-append, length-drop) (omega arith)

  pub take-laid : (new table : List A) → take (length new) (laid new table) ≡ new
  take-laid new table = take_at new _ (length new) refl

  -- the first places laid anew are as they were
  pub laid_same : (n : ℕ) (table : List A) → laid (take n table) table ≡ table
  laid_same zero table = refl
  laid_same (suc n) [] = refl
  laid_same (suc n) (x ∷ xs) = ap (λ (r : List A). x ∷ r) (laid_same n xs)

  -- the length is kept where the new places lie within
  pub length-laid_from : (at : ℕ) (new table : List A) → at + length new ≤ length table → length (laid_from at new table) ≡ length table
  length-laid_from at new table h = simp (length-append, length-drop, length-take) (omega arith)

  -- a part before the new places, the new places, and a part behind them
  pub part_before : (at : ℕ) (new table : List A) (j n : ℕ) → j + n ≤ at → at ≤ length table → take n (drop j (laid_from at new table)) ≡ take n (drop j table)
  part_before at new table j n h k = sym (drop-take j n _) ∙ ap (drop j) (take-put_mid_below at (length new) table new (j + n) h k) ∙ drop-take j n table

  pub part_new : (at : ℕ) (new table : List A) → at ≤ length table → take (length new) (drop at (laid_from at new table)) ≡ new
  part_new at new table h = ap (take (length new)) (drop_at (take at table) _ at (length-take-le at table h)) ∙ take-laid new (drop at table)

  pub part_behind : (at : ℕ) (new table : List A) (j n : ℕ) → at + length new ≤ j → at ≤ length table → take n (drop j (laid_from at new table)) ≡ take n (drop j table)
  part_behind at new table j n h k = ap (take n) (drop-put_mid at (length new) table new j h k refl)

  -- tables of blocks of 16 places: the block with the new places at its front, and any other block
  pub block_new : (at : ℕ) (new table : List A) → length new ≤ 16 → 16 * at ≤ length table → take (length new) (take 16 (drop (16 * at) (laid_from (16 * at) new table))) ≡ new
  block_new at new table n h = take-take (length new) 16 _ n ∙ part_new (16 * at) new table h

  pub block_other : (at : ℕ) (new table : List A) (p : ℕ) → p ≢ at → length new ≤ 16 → 16 * at ≤ length table → take 16 (drop (16 * p) (laid_from (16 * at) new table)) ≡ take 16 (drop (16 * p) table)
  block_other at new table p d n h = ⊎_elim before behind (cases_lt p at)
    where
      before : p < at → take 16 (drop (16 * p) (laid_from (16 * at) new table)) ≡ take 16 (drop (16 * p) table)
      before l = part_before (16 * at) new table (16 * p) 16 (omega arith) h

      behind : at ≤ p → take 16 (drop (16 * p) (laid_from (16 * at) new table)) ≡ take 16 (drop (16 * p) table)
      behind l = let m : at < p = omega arith in part_behind (16 * at) new table (16 * p) 16 (omega arith) h
