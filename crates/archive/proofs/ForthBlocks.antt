-- An accepted block is what is written for the job that it states.
use Rattle.std.proofs.Common.{◌≡◌, ℕ, zero, suc, ◌+◌, ◌*◌, ◌≤◌, true, eqb, List, [], ◌∷◌, ◌++◌, length, get_or, Some, None, Ok, Option, sym, refl, ap, ◌∙◌, subst, add-zero, add_assoc, mul-suc, arith}
use Rattle.std.specs.List.{flat_map}
use Rattle.std.proofs.lemmas.List.{length-append}
use Rattle.kinds.specs.Stamps.{Order}
use Rattle.kinds.specs.Bytes.{be2, be4, number2, number4, Bytes, part}
use Rattle.kinds.specs.Forms.{Form, Formed}
use Rattle.law.specs.Daybook.{Look, Put, AcceptedJob}
use Rattle.archive.specs.Directory.{pairs_bytes, stated_length}
use Rattle.archive.specs.Values.{read_values}
use Rattle.archive.specs.Blocks.{stamp_at, all_noted, read_blocks}
use Rattle.archive.specs.Journal.{look_bytes, put_bytes, block_bytes, block_lengths, stated_looks, stated_puts, stated_job, seen_job, stated_jobs}
use Rattle.archive.proofs.Forth.{pair_stands, form_stands}
use Rattle.archive.proofs.KnownEntries.{look_says, looks_stated, put_says, puts_stated}
use Rattle.archive.proofs.KnownBlocks.{first_says}
use Rattle.archive.proofs.Long.{look_long, put_long, looks_long, block_long}
use Rattle.archive.proofs.Stands.{Stands, join, join_behind, moved}
use Rattle.archive.proofs.Fields.{take-listed, stands4, stands2, ok_same}

module _ {S R : Type 0} (o : Order S) (f : Form R) (laws : Formed 8 o.form) (formed : Formed 12 f) (bs : List ℕ) (t : Bytes bs) where
  look_stands : (at : ℕ) (s : S) (v : R) → at + 22 ≤ length bs → stamp_at o bs (at + 2) ≡ Some s → f.read (part bs (at + 10) 12) ≡ Some v
      → Stands bs at (look_bytes o f (record { number = number2 (part bs at 2); saw = record { value = v; stamp = s } }))
  look_stands at s v h p q =
      join bs at (be2 (number2 (part bs at 2))) (o.form.written s ++ f.written v) (stands2 bs t at (omega arith))
      (join bs (at + 2) (o.form.written s) (f.written v) (form_stands bs t 8 o.form laws (at + 2) s (omega arith) p)
      (subst (λ (m : ℕ). Stands bs m (f.written v)) far (form_stands bs t 12 f formed (at + 10) v (omega arith) q)))
    where
      far : at + 10 ≡ at + 2 + length (o.form.written s)
      far = let w = laws.wide s in omega arith

  looks_stand : (m at : ℕ) → at + 22 * m ≤ length bs → all_noted o bs at m ≡ true → read_values f bs (at + 10) 22 m ≡ Ok tt → Stands bs at (flat_map (look_bytes o f) (stated_looks o f bs at m))
  looks_stand zero at h x y = refl
  looks_stand (suc m) at h x y =
      let u = mul-suc 22 m in
      let z = look_says o f bs m at x y in
      let ls : List (Look S R) = stated_looks o f bs (at + 22) m in
      let l : Look S R = record { number = number2 (part bs at 2); saw = record { value = z.value; stamp = z.stamp } } in
      subst (λ (ks : List (Look S R)). Stands bs at (flat_map (look_bytes o f) ks)) (sym z.states)
      (join_behind bs at 22 (look_bytes o f l) (flat_map (look_bytes o f) ls) (look_long o f laws formed l) (look_stands at z.stamp z.value (omega arith) z.stamped z.valued)
      (looks_stand m (at + 22) (omega arith) z.noted z.rest))

  put_stands : (at : ℕ) (v : R) → at + 14 ≤ length bs → f.read (part bs (at + 2) 12) ≡ Some v → Stands bs at (put_bytes o f (record { number = number2 (part bs at 2); value = v }))
  put_stands at v h q = join bs at (be2 (number2 (part bs at 2))) (f.written v) (stands2 bs t at (omega arith)) (form_stands bs t 12 f formed (at + 2) v (omega arith) q)

  puts_stand : (m at : ℕ) → at + 14 * m ≤ length bs → read_values f bs (at + 2) 14 m ≡ Ok tt → Stands bs at (flat_map (put_bytes o f) (stated_puts o f bs at m))
  puts_stand zero at h y = refl
  puts_stand (suc m) at h y =
      let u = mul-suc 14 m in
      let z = put_says o f bs m at y in
      let ps : List (Put R) = stated_puts o f bs (at + 14) m in
      let p : Put R = record { number = number2 (part bs at 2); value = z.value } in
      subst (λ (ks : List (Put R)). Stands bs at (flat_map (put_bytes o f) ks)) (sym z.states)
      (join_behind bs at 14 (put_bytes o f p) (flat_map (put_bytes o f) ps) (put_long o f laws formed p) (put_stands at z.value (omega arith) z.valued)
      (puts_stand m (at + 14) (omega arith) z.rest))

  small_stands : (at r p : ℕ) → at + 16 ≤ length bs → get_or bs (at + 12) 0 ≡ r → get_or bs (at + 13) 0 ≡ p → get_or bs (at + 14) 0 ≡ 0 → get_or bs (at + 15) 0 ≡ 0 → Stands bs (at + 12) (r ∷ p ∷ 0 ∷ 0 ∷ [])
  small_stands at r p h e0 e1 e2 e3 =
      let f1 : get_or bs (suc (at + 12)) 0 ≡ get_or bs (at + 13) 0 = ap (λ i. get_or bs i 0) (n1 at) in
      let f2 : get_or bs (suc (suc (at + 12))) 0 ≡ get_or bs (at + 14) 0 = ap (λ i. get_or bs i 0) (n2 at) in
      let f3 : get_or bs (suc (suc (suc (at + 12)))) 0 ≡ get_or bs (at + 15) 0 = ap (λ i. get_or bs i 0) (n3 at) in
      take-listed 4 (at + 12) bs (omega arith) ∙ cc
    where
      n1 : (at : ℕ) → suc (at + 12) ≡ at + 13
      n1 at = omega arith

      n2 : (at : ℕ) → suc (suc (at + 12)) ≡ at + 14
      n2 at = omega arith

      n3 : (at : ℕ) → suc (suc (suc (at + 12))) ≡ at + 15
      n3 at = omega arith

  -- the whole block
  job_stands : (at : ℕ) (s : S) → at + 16 + 22 * get_or bs (at + 12) 0 + 14 * get_or bs (at + 13) 0 ≤ length bs → stamp_at o bs at ≡ Some s
      → get_or bs (at + 14) 0 ≡ 0 → get_or bs (at + 15) 0 ≡ 0 → all_noted o bs (at + 16) (get_or bs (at + 12) 0) ≡ true
      → read_values f bs (at + 16 + 10) 22 (get_or bs (at + 12) 0) ≡ Ok tt → read_values f bs (at + 16 + 22 * get_or bs (at + 12) 0 + 2) 14 (get_or bs (at + 13) 0) ≡ Ok tt
      → Stands bs at (block_bytes o f (stated_job o f bs at s)) × (length (block_bytes o f (stated_job o f bs at s)) ≡ 16 + 22 * get_or bs (at + 12) 0 + 14 * get_or bs (at + 13) 0)
  job_stands at s h e z0 z1 noted x y =
      let l = looks_stand (get_or bs (at + 12) 0) (at + 16) (omega arith) noted x in
      let ln = looks_stated o f bs (get_or bs (at + 12) 0) (at + 16) noted x in
      let u = puts_stand (get_or bs (at + 13) 0) (at + 16 + 22 * get_or bs (at + 12) 0) (omega arith) y in
      let un = puts_stated o f bs (get_or bs (at + 13) 0) (at + 16 + 22 * get_or bs (at + 12) 0) y in
      let ls : List (Look S R) = stated_looks o f bs (at + 16) (get_or bs (at + 12) 0) in
      let ps : List (Put R) = stated_puts o f bs (at + 16 + 22 * get_or bs (at + 12) 0) (get_or bs (at + 13) 0) in
      let lb : List ℕ = flat_map (look_bytes o f) ls in
      let pb : List ℕ = flat_map (put_bytes o f) ps in
      let mid : List ℕ = length ls ∷ length ps ∷ 0 ∷ 0 ∷ [] in
      let tail : Stands bs (at + 16) (lb ++ pb) = join_behind bs (at + 16) (22 * get_or bs (at + 12) 0) lb pb (looks_long o f laws formed ls ∙ ap (λ n. 22 * n) ln) l u in
      let m4 : Stands bs (at + 12) mid = small_stands at (length ls) (length ps) (omega arith) (sym ln) (sym un) z0 z1 in
      let t2 : Stands bs (at + 12) (mid ++ (lb ++ pb)) = join bs (at + 12) mid (lb ++ pb) m4 (moved bs (lb ++ pb) (plus at 12 4) tail) in
      let t3 : Stands bs (at + 8) (be4 (number4 (part bs (at + 8) 4)) ++ (mid ++ (lb ++ pb))) = join bs (at + 8) (be4 (number4 (part bs (at + 8) 4))) (mid ++ (lb ++ pb)) (stands4 bs t (at + 8) (omega arith)) (moved bs (mid ++ (lb ++ pb)) (plus at 8 4) t2) in (
        join_behind bs at 8 (o.form.written s) (be4 (number4 (part bs (at + 8) 4)) ++ (mid ++ (lb ++ pb))) (laws.wide s) (form_stands bs t 8 o.form laws at s (omega arith) e) t3,
        block_long o f laws formed (stated_job o f bs at s) ∙ ap (λ n. 16 + 22 * n + 14 * length ps) ln ∙ ap (λ n. 16 + 22 * get_or bs (at + 12) 0 + 14 * n) un,
      )
    where
      plus : (a b c : ℕ) → a + (b + c) ≡ a + b + c
      plus a b c = omega arith

  -- the pairs and the blocks from a place on
  abbrev BlocksStand : ℕ → ℕ → ℕ → ℕ → List (AcceptedJob S R) → Type 0
  BlocksStand dir at m end js = Stands bs dir (pairs_bytes at (block_lengths o f js)) × Stands bs at (flat_map (block_bytes o f) js) × (length js ≡ m) × (at + length (flat_map (block_bytes o f) js) ≡ end)

  blocks_step : (dir at m end : ℕ) (s : S) (u0 : Option S) (js : List (AcceptedJob S R)) → u0 ≡ Some s → Stands bs dir (be4 at ++ be4 (stated_length bs dir))
      → Stands bs at (block_bytes o f (stated_job o f bs at s)) → length (block_bytes o f (stated_job o f bs at s)) ≡ stated_length bs dir
      → BlocksStand (dir + 8) (at + stated_length bs dir) m end js → BlocksStand dir at (suc m) end (seen_job o f bs at u0 js)
  blocks_step dir at m end s None js e p q l ih = let z : ◌≡◌ {A = ℕ} 0 1 = cc in absurd (omega arith)
  blocks_step dir at m end s (Some s') js e p q l ih =
      let n : ℕ = stated_length bs dir in
      let bb : List ℕ = block_bytes o f (stated_job o f bs at s) in
      let jb : List ℕ = flat_map (block_bytes o f) js in
      let body : Stands bs at (bb ++ jb) = join_behind bs at (stated_length bs dir) bb jb l q ih.1 in
      let rest : Stands bs (dir + 8) (pairs_bytes (at + stated_length bs dir) (block_lengths o f js)) = ih.0 in
      let pairs : Stands bs dir (be4 at ++ (be4 (stated_length bs dir) ++ pairs_bytes (at + stated_length bs dir) (block_lengths o f js))) = join bs dir (be4 at ++ be4 (stated_length bs dir)) (pairs_bytes (at + stated_length bs dir) (block_lengths o f js)) p rest in
      let pairs2 : Stands bs dir (pairs_bytes at (length bb ∷ block_lengths o f js)) = subst (λ (i : ℕ). Stands bs dir (pairs_bytes at (i ∷ block_lengths o f js))) (sym l) pairs in
      let long : at + length (bb ++ jb) ≡ end = ap (λ i. at + i) (length-append bb jb) ∙ sym (add_assoc at (length bb) (length jb)) ∙ ap (λ i. at + i + length jb) l ∙ ih.3 in
      subst (λ (x : S). BlocksStand dir at (suc m) end (stated_job o f bs at x ∷ js)) (some_same s s' e) (pairs2, body, ap suc ih.2, long)
    where
      some_same : (s s' : S) → Some s' ≡ Some s → s ≡ s'
      some_same s s' e = cc

  pub blocks_stand : (m dir at n end : ℕ) (low : S) → read_blocks o f bs n dir at low m ≡ Ok end → BlocksStand dir at m end (stated_jobs o f bs dir at m)
  blocks_stand zero dir at n end low q = (refl, refl, refl, add-zero at ∙ ok_same at end q)
  blocks_stand (suc m) dir at n end low q =
      let z = first_says o f bs dir at n m end low q in
      let b = z.block in
      let st = job_stands at b.stamp (omega (arith, b.long, z.pair.within)) b.stamped b.zeros.0 b.zeros.1 b.noted b.look_values b.put_values in
      blocks_step dir at m end b.stamp (stamp_at o bs at) (stated_jobs o f bs (dir + 8) (at + stated_length bs dir) m) b.stamped
      (pair_stands bs t dir at (at + stated_length bs dir) (eqb m 0) z.pair) st.0 (st.1 ∙ sym b.long)
      (blocks_stand m (dir + 8) (at + stated_length bs dir) n end z.opened.stamp z.rest)
