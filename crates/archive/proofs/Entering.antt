-- One turn of each loop that enters values.
use Rattle.std.proofs.Common.{◌≡◌, ℕ, zero, suc, ◌+◌, ◌-◌, ◌*◌, ◌<◌, List, [], ◌∷◌, ◌++◌, length, take, drop, set, Some, None, Ok, Option, refl, sym, ap, ◌∙◌, arith}
use Rattle.std.proofs.lemmas.List.{take_more_set, append_assoc, drop-drop, drop-take}
use Rattle.std.specs.Prelude.{fold}
use Rattle.std.specs.Simd.{first_chunks}
use Rattle.std.specs.Option.{ok_or}
use Rattle.kinds.specs.Bytes.{number2, part}
use Rattle.kinds.specs.Forms.{Form}
use Rattle.archive.specs.declared.fault.Fault.TheVariants.{ValueWrong}
use Rattle.archive.specs.Faults.{onward}
use Rattle.archive.specs.Directory.{stated_length}
use Rattle.archive.specs.Values.{read_value, read_values, value_first, stated_values}
use Rattle.archive.specs.Played.{value_in, value_entered, values_after, block_played, blocks_played}
use Rattle.archive.proofs.Counting.{at_left, met}
use Rattle.archive.proofs.RowLaws.{row_number}

module _ {R : Type 0} (f : Form R) (bs : List ℕ) where
  was_some : (at : ℕ) (v : R) (o : Option R) → Ok v ≡ ok_or o (ValueWrong at) → o ≡ Some v
  was_some at v (Some w) q = cc
  was_some at v None q = let z : ◌≡◌ {A = ℕ} 0 1 = cc in absurd (omega arith)

  stated_more : (at n i : ℕ) (v : R) (vs : List R) → i < n → i < length vs → Ok v ≡ read_value f bs (at + 12 * i)
      → take (i + 1) (set vs i v) ++ stated_values f bs (at + 12 * (i + 1)) 12 (n - (i + 1)) ≡ take i vs ++ stated_values f bs (at + 12 * i) 12 (n - i)
  stated_more at n i v vs h l e =
      let a : at + 12 * (i + 1) ≡ at + 12 * i + 12 = omega arith in
      ap (λ zs. zs ++ stated_values f bs (at + 12 * (i + 1)) 12 (n - (i + 1))) (take_more_set vs i v l)
      ∙ append_assoc (take i vs) (v ∷ []) (stated_values f bs (at + 12 * (i + 1)) 12 (n - (i + 1)))
      ∙ ap (λ m. take i vs ++ v ∷ stated_values f bs m 12 (n - (i + 1))) a
      ∙ ap (λ o. take i vs ++ value_first o (stated_values f bs (at + 12 * i + 12) 12 (n - (i + 1)))) (sym (was_some (at + 12 * i) v (f.read (part bs (at + 12 * i) 12)) e))
      ∙ sym (at_left (λ m. take i vs ++ stated_values f bs (at + 12 * i) 12 m) n i h)

  values_left : (at n i : ℕ) → i < n
      → read_values f bs (at + 12 * i) 12 (n - i) ≡ onward (read_value f bs (at + 12 * i)) (λ _. read_values f bs (at + 12 * (i + 1)) 12 (n - (i + 1)))
  values_left at n i h =
      let a : at + 12 * i + 12 ≡ at + 12 * (i + 1) = omega arith in
      at_left (read_values f bs (at + 12 * i) 12) n i h ∙ ap (λ m. onward (read_value f bs (at + 12 * i)) (λ _. read_values f bs m 12 (n - (i + 1)))) a

  -- so many of n values were read, and entered at the front of a space
  abbrev pub Loaded : ℕ → ℕ → ℕ → List R → Type 0
  Loaded at n i space =
      (read_values f bs (at + 12 * i) 12 (n - i) ≡ read_values f bs at 12 n) × (take i space ++ stated_values f bs (at + 12 * i) 12 (n - i) ≡ stated_values f bs at 12 n)

  pub loaded_more : (at n i : ℕ) (v : R) (space : List R) → i < n → i < length space → Ok v ≡ read_value f bs (at + 12 * i) → Loaded at n i space → Loaded at n (i + 1) (set space i v)
  loaded_more at n i v space h l e m = (sym (values_left at n i h ∙ met _ e) ∙ m.0, stated_more at n i v space h l e ∙ m.1)

  -- the puts of rows, entered in turn
  pub values_entered : (m at : ℕ) (vs : List R) → fold (value_entered f) vs (first_chunks 14 m (drop at bs)) ≡ values_after f bs at vs m
  values_entered zero at vs = refl
  values_entered (suc m) at vs =
      ap (λ xs. fold (value_entered f) (value_entered f vs (part bs at 14)) (first_chunks 14 m xs)) (drop-drop 14 at bs)
      ∙ values_entered m (at + 14) (value_entered f vs (part bs at 14))
      ∙ ap (λ t. values_after f bs (at + 14) t m) one
    where
      one : value_entered f vs (part bs at 14) ≡ value_in (f.read (part bs (at + 2) 12)) vs (number2 (part bs at 2))
      one =
          ap (λ v. value_in (f.read v) vs (number2 (part bs at 14))) (drop-take 2 12 (drop at bs) ∙ ap (take 12) (drop-drop 2 at bs))
          ∙ ap (value_in (f.read (part bs (at + 2) 12)) vs) (sym (row_number 14 (drop at bs) (omega arith)))

  pub blocks_on : (at len : ℕ) (vs ws : List R) (n i : ℕ) → i < n → len ≡ stated_length bs (20 + 8 * i) → ws ≡ block_played f bs at vs
      → blocks_played f bs (20 + 8 * (i + 1)) (at + len) ws (n - (i + 1)) ≡ blocks_played f bs (20 + 8 * i) at vs (n - i)
  blocks_on at len vs ws n i h e p =
      let a : 20 + 8 * (i + 1) ≡ 20 + 8 * i + 8 = omega arith in
      ap (λ m. blocks_played f bs m (at + len) ws (n - (i + 1))) a
      ∙ ap (λ m. blocks_played f bs (20 + 8 * i + 8) (at + m) ws (n - (i + 1))) e
      ∙ ap (λ us. blocks_played f bs (20 + 8 * i + 8) (at + stated_length bs (20 + 8 * i)) us (n - (i + 1))) p
      ∙ sym (at_left (blocks_played f bs (20 + 8 * i) at vs) n i h)
