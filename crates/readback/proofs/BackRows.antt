-- Values, looks and puts that stand in a row are read back, each at its place.
use Rattle.std.proofs.Common.{◌≡◌, ℕ, ◌+◌, ◌<◌, ◌≤◌, true, ◌&&◌, List, [], ◌∷◌, ◌++◌, length, is_some, Some, Ok, sym, refl, ap, ◌∙◌, subst, arith}
use Rattle.std.specs.Option.{ok_or}
use Rattle.std.specs.List.{AllByRecursion, flat_map}
use Rattle.kinds.specs.Bytes.{be2, number2, part}
use Rattle.kinds.specs.Forms.{Form, Formed, Alike}
use Rattle.kinds.specs.Stamps.{Order}
use Rattle.law.specs.Daybook.{Look, Put}
use Rattle.law.specs.Promises.{look_numbers, put_numbers}
use Rattle.archive.specs.declared.fault.Fault.TheVariants.{ValueWrong}
use Rattle.archive.specs.Faults.{onward}
use Rattle.archive.specs.Values.{values_bytes, read_values, value_first, stated_values}
use Rattle.archive.specs.Names.{numbers}
use Rattle.archive.specs.Blocks.{stamp_at, all_noted}
use Rattle.archive.specs.Journal.{look_bytes, put_bytes, seen_look, stated_looks, seen_put, stated_puts}
use Rattle.archive.proofs.Long.{look_long, put_long}
use Rattle.archive.proofs.Stands.{Stands, first, second, moved, behind}
use Rattle.archive.proofs.Fields.{reads2}
use Rattle.archive.proofs.Places.{next_look_value, next_put_value}
use Rattle.readback.specs.ReadsBack.{Each, AlikeLook, AlikePut}
use Rattle.readback.proofs.BackFields.{ReadAs, reads_form}

-- opening values
module _ {R : Type 0} (f : Form R) (bs : List ℕ) where
  pub record ValuesBack (at : ℕ) (vs : List R) : Type 0 where
    pub read : read_values f bs at 12 (length vs) ≡ Ok tt
    pub stated : Each (Alike f) (stated_values f bs at 12 (length vs)) vs

  value_more : (at : ℕ) (v : R) (vs : List R) → ReadAs f (part bs at 12) v → ValuesBack (at + 12) vs → ValuesBack at (v ∷ vs)
  value_more at v vs r i =
      record {
        read = ap (λ u. onward (ok_or u (ValueWrong at)) (λ _. read_values f bs (at + 12) 12 (length vs))) r.is ∙ i.read;
        stated = subst (λ xs. Each (Alike f) xs (v ∷ vs)) (sym (ap (λ u. value_first u (stated_values f bs (at + 12) 12 (length vs))) r.is)) (r.alike, i.stated);
      }

  pub values_back : Formed 12 f → (vs : List R) (at : ℕ) → Stands bs at (values_bytes f vs) → ValuesBack at vs
  values_back formed [] at p = record { read = refl; stated = tt }
  values_back formed (v ∷ vs) at p =
      let here = first bs at (f.written v) (values_bytes f vs) p in
      let rest = behind bs at 12 (f.written v) (values_bytes f vs) (formed.wide v) p in
      value_more at v vs (reads_form 12 f formed bs at v here) (values_back formed vs (at + 12) rest)

module _ {S R : Type 0} (o : Order S) (f : Form R) (bs : List ℕ) where
  -- one look
  record LookBack (at : ℕ) (l : Look S R) : Type 0 where
    number : number2 (part bs at 2) ≡ l.number
    stamp : ReadAs o.form (part bs (at + 2) 8) l.saw.stamp
    value : ReadAs f (part bs (at + 10) 12) l.saw.value

  -- looks: what the rule asks of them, and what they state
  pub record LooksBack (at : ℕ) (ls : List (Look S R)) : Type 0 where
    pub noted : all_noted o bs at (length ls) ≡ true
    pub values : read_values f bs (at + 10) 22 (length ls) ≡ Ok tt
    pub named : numbers bs at 22 (length ls) ≡ look_numbers ls
    pub stated : Each (AlikeLook o f) (stated_looks o f bs at (length ls)) ls

  look_more : (at : ℕ) (l : Look S R) (ls : List (Look S R)) → LookBack at l → LooksBack (at + 22) ls → LooksBack at (l ∷ ls)
  look_more at l ls b i =
      let rest : List (Look S R) = stated_looks o f bs (at + 22) (length ls) in
      let seen : seen_look o f (number2 (part bs at 2)) (stamp_at o bs (at + 2)) (f.read (part bs (at + 10) 12)) rest ≡ record { number = l.number; saw = record { value = b.value.value; stamp = b.stamp.value } } ∷ rest
      = ap (λ x. seen_look o f x (stamp_at o bs (at + 2)) (f.read (part bs (at + 10) 12)) rest) b.number
      ∙ ap (λ s. seen_look o f l.number s (f.read (part bs (at + 10) 12)) rest) b.stamp.is
      ∙ ap (λ v. seen_look o f l.number (Some b.stamp.value) v rest) b.value.is in
      record {
        noted = ap (λ s. is_some s && all_noted o bs (at + 22) (length ls)) b.stamp.is ∙ i.noted;
        values = ap (λ v. onward (ok_or v (ValueWrong (at + 10))) (λ _. read_values f bs (at + 10 + 22) 22 (length ls))) b.value.is ∙ ap (λ m. read_values f bs m 22 (length ls)) (next_look_value at) ∙ i.values;
        named = ap (λ x. x ∷ numbers bs (at + 22) 22 (length ls)) b.number ∙ ap (λ xs. l.number ∷ xs) i.named;
        stated = subst (λ xs. Each (AlikeLook o f) xs (l ∷ ls)) (sym seen) (record { number = refl; stamp = b.stamp.alike; value = b.value.alike }, i.stated);
      }

  record PutBack (at : ℕ) (p : Put R) : Type 0 where
    number : number2 (part bs at 2) ≡ p.number
    value : ReadAs f (part bs (at + 2) 12) p.value

  pub record PutsBack (at : ℕ) (ps : List (Put R)) : Type 0 where
    pub values : read_values f bs (at + 2) 14 (length ps) ≡ Ok tt
    pub named : numbers bs at 14 (length ps) ≡ put_numbers ps
    pub stated : Each (AlikePut f) (stated_puts o f bs at (length ps)) ps

  put_more : (at : ℕ) (p : Put R) (ps : List (Put R)) → PutBack at p → PutsBack (at + 14) ps → PutsBack at (p ∷ ps)
  put_more at p ps b i =
      let rest : List (Put R) = stated_puts o f bs (at + 14) (length ps) in
      let seen : seen_put o f (number2 (part bs at 2)) (f.read (part bs (at + 2) 12)) rest ≡ record { number = p.number; value = b.value.value } ∷ rest
      = ap (λ x. seen_put o f x (f.read (part bs (at + 2) 12)) rest) b.number ∙ ap (λ v. seen_put o f p.number v rest) b.value.is in
      record {
        values = ap (λ v. onward (ok_or v (ValueWrong (at + 2))) (λ _. read_values f bs (at + 2 + 14) 14 (length ps))) b.value.is ∙ ap (λ m. read_values f bs m 14 (length ps)) (next_put_value at) ∙ i.values;
        named = ap (λ x. x ∷ numbers bs (at + 14) 14 (length ps)) b.number ∙ ap (λ xs. p.number ∷ xs) i.named;
        stated = subst (λ xs. Each (AlikePut f) xs (p ∷ ps)) (sym seen) (record { number = refl; value = b.value.alike }, i.stated);
      }

  module _ (laws : Formed 8 o.form) (formed : Formed 12 f) where
    -- the value of a look, and its stamp, stand behind its number
    pub look_parts : (at : ℕ) (l : Look S R) → Stands bs at (look_bytes o f l) → Stands bs (at + 2) (o.form.written l.saw.stamp ++ f.written l.saw.value)
    look_parts at l p = second bs at (be2 l.number) (o.form.written l.saw.stamp ++ f.written l.saw.value) p

    look_back : (at : ℕ) (l : Look S R) → l.number < 65536 → Stands bs at (look_bytes o f l) → LookBack at l
    look_back at l h p =
        let both = look_parts at l p in
        let value = second bs (at + 2) (o.form.written l.saw.stamp) (f.written l.saw.value) both in
        record {
          number = reads2 bs at l.number h (first bs at (be2 l.number) (o.form.written l.saw.stamp ++ f.written l.saw.value) p);
          stamp = reads_form 8 o.form laws bs (at + 2) l.saw.stamp (first bs (at + 2) (o.form.written l.saw.stamp) (f.written l.saw.value) both);
          value = reads_form 12 f formed bs (at + 10) l.saw.value (moved bs (f.written l.saw.value) (far (length (o.form.written l.saw.stamp)) (laws.wide l.saw.stamp)) value);
        }
      where
        far : (w : ℕ) → w ≡ 8 → at + 2 + w ≡ at + 10
        far w e = omega arith

    pub looks_back : (n : ℕ) → n ≤ 65536 → (ls : List (Look S R)) (at : ℕ) → AllByRecursion (λ x. x < n) (look_numbers ls) → Stands bs at (flat_map (look_bytes o f) ls) → LooksBack at ls
    looks_back n b [] at h p = record { noted = refl; values = refl; named = refl; stated = tt }
    looks_back n b (l ∷ ls) at h p =
        let here = first bs at (look_bytes o f l) (flat_map (look_bytes o f) ls) p in
        let rest = behind bs at 22 (look_bytes o f l) (flat_map (look_bytes o f) ls) (look_long o f laws formed l) p in
        let t = h.0 in
        look_more at l ls (look_back at l (omega arith) here) (looks_back n b ls (at + 22) h.1 rest)

    put_back : (at : ℕ) (p : Put R) → p.number < 65536 → Stands bs at (put_bytes o f p) → PutBack at p
    put_back at p h q =
        record {
          number = reads2 bs at p.number h (first bs at (be2 p.number) (f.written p.value) q);
          value = reads_form 12 f formed bs (at + 2) p.value (second bs at (be2 p.number) (f.written p.value) q);
        }

    pub puts_back : (n : ℕ) → n ≤ 65536 → (ps : List (Put R)) (at : ℕ) → AllByRecursion (λ x. x < n) (put_numbers ps) → Stands bs at (flat_map (put_bytes o f) ps) → PutsBack at ps
    puts_back n b [] at h q = record { values = refl; named = refl; stated = tt }
    puts_back n b (p ∷ ps) at h q =
        let here = first bs at (put_bytes o f p) (flat_map (put_bytes o f) ps) q in
        let rest = behind bs at 14 (put_bytes o f p) (flat_map (put_bytes o f) ps) (put_long o f laws formed p) q in
        let t = h.0 in
        put_more at p ps (put_back at p (omega arith) here) (puts_back n b ps (at + 14) h.1 rest)
