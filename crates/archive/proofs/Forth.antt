-- What is accepted is what is written: heading, pairs and values.
use Rattle.std.proofs.Common.{◌≡◌, ℕ, zero, suc, ◌+◌, ◌*◌, ◌<◌, ◌≤◌, Bool, true, ◌&&◌, leb, List, [], ◌∷◌, ◌++◌, length, get_or, drop, Some, Ok, Option, sym, refl, ap, ◌∙◌, subst, mul-suc, arith}
use Rattle.std.proofs.lemmas.List.{length-append, length-drop, get_or-drop}
use Rattle.std.proofs.lemmas.Bool.{and_parts, leb-true, eqb-true}
use Rattle.kinds.specs.Bytes.{be4, Bytes, part}
use Rattle.kinds.specs.Forms.{Form, Formed}
use Rattle.kinds.specs.ByteLaws.{forth2, forth4}
use Rattle.archive.specs.Heading.{heading_bytes, mark_right, kinds_right, records_in, jobs_in, sizes_right}
use Rattle.archive.specs.Directory.{stated_length}
use Rattle.archive.specs.Values.{values_bytes, read_values, value_first, stated_values}
use Rattle.archive.proofs.Stands.{Stands, join, join_behind, bytes_part, part_length}
use Rattle.archive.proofs.Fields.{take-listed, stands4, value_met}
use Rattle.archive.proofs.KnownPairs.{PairSays}

twelve_same : (s r a b c d e f g h i j k l : ℕ) → a ≡ 65 → b ≡ 83 → c ≡ 74 → d ≡ 49 → e ≡ s → f ≡ r → g < 256 → h < 256 → i < 256 → j < 256 → k < 256 → l < 256
    → a ∷ b ∷ c ∷ d ∷ e ∷ f ∷ g ∷ h ∷ i ∷ j ∷ k ∷ l ∷ [] ≡ heading_bytes s r (g * 256 + h) (i * 16777216 + j * 65536 + k * 256 + l)
twelve_same s r a b c d e f g h i j k l pa pb pc pd pe pf hg hh hi hj hk hl =
    let x = forth2 g h hg hh in let y = forth4 i j k l hi hj hk hl in
    cc

pub values_length : {R : Type 0} (f : Form R) → Formed 12 f → (vs : List R) → length (values_bytes f vs) ≡ 12 * length vs
values_length f laws [] = refl
values_length f laws (v ∷ vs) =
    let a = length-append (f.written v) (values_bytes f vs) in let t = laws.wide v in let i = values_length f laws vs in let m = mul-suc 12 (length vs) in omega arith

module _ (bs : List ℕ) (t : Bytes bs) where
  sizes_same : (records_in (drop 6 bs) ≡ get_or bs 6 0 * 256 + get_or bs 7 0) × (jobs_in (drop 6 bs) ≡ get_or bs 8 0 * 16777216 + get_or bs 9 0 * 65536 + get_or bs 10 0 * 256 + get_or bs 11 0)
  sizes_same =
      let e0 : get_or (drop 6 bs) 0 0 ≡ get_or bs 6 0 = get_or-drop 6 bs 0 0 in
      let e1 : get_or (drop 6 bs) 1 0 ≡ get_or bs 7 0 = get_or-drop 6 bs 1 0 in
      let e2 : get_or (drop 6 bs) 2 0 ≡ get_or bs 8 0 = get_or-drop 6 bs 2 0 in
      let e3 : get_or (drop 6 bs) 3 0 ≡ get_or bs 9 0 = get_or-drop 6 bs 3 0 in
      let e4 : get_or (drop 6 bs) 4 0 ≡ get_or bs 10 0 = get_or-drop 6 bs 4 0 in
      let e5 : get_or (drop 6 bs) 5 0 ≡ get_or bs 11 0 = get_or-drop 6 bs 5 0 in
      (omega arith, omega arith)

  pub heading_stands : (s r : ℕ) → (leb 6 (length bs) && (mark_right bs && kinds_right s r bs)) ≡ true → sizes_right (drop 6 bs) ≡ true
      → Stands bs 0 (heading_bytes s r (records_in (drop 6 bs)) (jobs_in (drop 6 bs)))
  heading_stands s r h z =
      let a = and_parts _ _ h in
      let m = and_parts _ _ a.1 in
      let q = and_parts _ _ m.0 in
      let q1 = and_parts _ _ q.1 in
      let q2 = and_parts _ _ q1.1 in
      let w = and_parts _ _ m.1 in
      let y = and_parts (leb 6 (length (drop 6 bs))) _ z in
      let n6 : 6 ≤ length (drop 6 bs) = leb-true _ _ y.0 in
      let d = length-drop 6 bs in
      let n : 12 ≤ length bs = omega arith in
      take-listed 12 0 bs (omega arith)
      ∙ twelve_same s r (get_or bs 0 0) (get_or bs 1 0) (get_or bs 2 0) (get_or bs 3 0) (get_or bs 4 0) (get_or bs 5 0) (get_or bs 6 0) (get_or bs 7 0) (get_or bs 8 0) (get_or bs 9 0) (get_or bs 10 0) (get_or bs 11 0)
      (eqb-true _ _ q.0) (eqb-true _ _ q1.0) (eqb-true _ _ q2.0) (eqb-true _ _ q2.1) (eqb-true _ _ w.0) (eqb-true _ _ w.1)
      (t 6) (t 7) (t 8) (t 9) (t 10) (t 11)
      ∙ ap (λ x. heading_bytes s r x (get_or bs 8 0 * 16777216 + get_or bs 9 0 * 65536 + get_or bs 10 0 * 256 + get_or bs 11 0)) (sym sizes_same.0)
      ∙ ap (heading_bytes s r (records_in (drop 6 bs))) (sym sizes_same.1)

  pub pair_stands : (at from end : ℕ) (last : Bool) → PairSays bs at from end last → Stands bs at (be4 from ++ be4 (stated_length bs at))
  pair_stands at from end last p =
      join bs at (be4 from) (be4 (stated_length bs at)) (subst (λ (m : ℕ). Stands bs at (be4 m)) p.starts (stands4 bs t at (omega (arith, p.whole)))) (stands4 bs t (at + 4) (omega (arith, p.whole)))

  -- what was read by a form stands there
  pub form_stands : {A : Type 0} (w : ℕ) (f : Form A) → Formed w f → (at : ℕ) (v : A) → at + w ≤ length bs → f.read (part bs at w) ≡ Some v → Stands bs at (f.written v)
  form_stands w f laws at v h e = ap (λ m. part bs at m) (laws.wide v) ∙ sym (laws.forth (part bs at w) v (part_length bs at w h) (bytes_part bs t at w) e)

  pub values_stand : {R : Type 0} (f : Form R) → Formed 12 f → (n at : ℕ) → at + 12 * n ≤ length bs → read_values f bs at 12 n ≡ Ok tt → Stands bs at (values_bytes f (stated_values f bs at 12 n))
  values_stand f laws zero at h q = refl
  values_stand {R} f laws (suc n) at h q =
      let m = mul-suc 12 n in
      let v = value_met at (f.read (part bs at 12)) (read_values f bs (at + 12) 12 n) q in
      let vs : List R = stated_values f bs (at + 12) 12 n in
      subst (λ (p : Option R). Stands bs at (values_bytes f (value_first p vs))) (sym v.1)
      (join_behind bs at 12 (f.written v.0) (values_bytes f vs) (laws.wide v.0) (form_stands 12 f laws at v.0 (omega arith) v.1) (values_stand f laws n (at + 12) (omega arith) v.2))
