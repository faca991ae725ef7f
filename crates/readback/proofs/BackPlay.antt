-- The play over the table of bytes is without a fault exactly where every look is borne out.
use Rattle.std.proofs.Common.{◌≡◌, ℕ, suc, ◌+◌, ◌-◌, ◌*◌, ◌<◌, ◌≤◌, ◌≢◌, true, cond, leb, List, [], ◌∷◌, ◌++◌, length, Ok, Err, sym, refl, ap, ◌∙◌, subst, arith}
use Rattle.std.specs.List.{AllByRecursion, flat_map}
use Rattle.std.proofs.lemmas.Bool.{and_from, and_parts, cond-true, le-leb}
use Rattle.std.proofs.lemmas.Slice.Eq.{bytes_eq-Decides}
use Rattle.kinds.specs.Bytes.{be2, number2, part}
use Rattle.kinds.specs.Forms.{Form, Formed}
use Rattle.kinds.specs.Stamps.{Order}
use Rattle.law.specs.Account.{StandingAt, put_of, under, after_job}
use Rattle.law.specs.Daybook.{Look, Put, AcceptedJob}
use Rattle.law.specs.Promises.{Pairwise, NeatJob, look_numbers, put_numbers}
use Rattle.archive.specs.declared.fault.Fault.TheVariants.{NotBorneOut}
use Rattle.archive.specs.declared.blocks.Opened.{Opened}
use Rattle.archive.specs.Faults.{onward}
use Rattle.archive.specs.Laying.{laid_over}
use Rattle.archive.specs.Blocks.{read_front}
use Rattle.archive.specs.Journal.{look_bytes, put_bytes}
use Rattle.archive.specs.Play.{look_borne, read_look, read_looks, put_in, puts_after, play_jobs}
use Rattle.archive.proofs.Stands.{Stands, first, second, behind}
use Rattle.archive.proofs.Fields.{reads2, guarded, bound}
use Rattle.readback.specs.Sound.{StandsAlike, BorneOutAlike}
use Rattle.archive.proofs.Long.{look_long, put_long}
use Rattle.readback.proofs.BackRows.{look_parts}
use Rattle.readback.proofs.BackParts.{BlockParts}
use Rattle.readback.proofs.BackNames.{looks_inside, puts_inside}
use Rattle.readback.proofs.BackBlock.{length_of}
use Rattle.readback.proofs.BackWalk.{gap, Walk}
use Rattle.readback.proofs.BackTable.{row_bytes, row_long, alike_rows, rows_alike, row_put, one_put, Held, held_same, held_put, puts_in_turn}

module _ {S R : Type 0} (o : Order S) (f : Form R) (laws : Formed 8 o.form) (formed : Formed 12 f) (bs : List ℕ) (n : ℕ) (some : n ≤ 65536) where
  -- the number of a look, and what it saw
  look_number : (at : ℕ) (l : Look S R) → l.number < n → Stands bs at (look_bytes o f l) → number2 (part bs at 2) ≡ l.number
  look_number at l k p = reads2 bs at l.number (omega arith) (first bs at (be2 l.number) (row_bytes o f l.saw) p)

  look_saw : (at : ℕ) (l : Look S R) → Stands bs at (look_bytes o f l) → part bs (at + 2) 20 ≡ row_bytes o f l.saw
  look_saw at l p = subst (λ (m : ℕ). part bs (at + 2) m ≡ row_bytes o f l.saw) (row_long o f laws formed l.saw) (look_parts o f bs laws formed at l p)

  -- a look that shows what stands is borne out
  look_met : (standing : StandingAt S R) (table : List ℕ) → Held o f n standing table → (at : ℕ) (l : Look S R) → l.number < n → StandsAlike o f (standing l.number) l.saw → Stands bs at (look_bytes o f l) → read_look bs at table ≡ Ok tt
  look_met standing table h at l k e p =
      let long = h.long in
      let row : part table (20 * l.number) 20 ≡ part bs (at + 2) 20 = h.rows l.number e.stood k e.there ∙ sym (alike_rows o f l.saw e.stood e.stamp e.value) ∙ sym (look_saw at l p) in
      let borne : look_borne bs at table l.number ≡ true = and_from _ _ (le-leb (20 * l.number + 20) (length table) (omega arith)) ((bytes_eq-Decides (part table (20 * l.number) 20) (part bs (at + 2) 20)).1 row) in
      ap (λ y. cond (look_borne bs at table y) (Ok tt) (Err (NotBorneOut at))) (look_number at l k p) ∙ cond-true (look_borne bs at table l.number) (Ok tt) (Err (NotBorneOut at)) borne

  looks_met : (standing : StandingAt S R) (table : List ℕ) → Held o f n standing table → (ls : List (Look S R)) (at : ℕ) → AllByRecursion (λ x. x < n) (look_numbers ls)
      → AllByRecursion (λ (l : Look S R). StandsAlike o f (standing l.number) l.saw) ls → Stands bs at (flat_map (look_bytes o f) ls) → read_looks bs at table (length ls) ≡ Ok tt
  looks_met standing table h [] at k e p = refl
  looks_met standing table h (l ∷ ls) at k e p =
      let here = first bs at (look_bytes o f l) (flat_map (look_bytes o f) ls) p in
      let rest = behind bs at 22 (look_bytes o f l) (flat_map (look_bytes o f) ls) (look_long o f laws formed l) p in
      ap (λ r. onward r (λ _. read_looks bs (at + 22) table (length ls))) (look_met standing table h at l k.0 e.0 here) ∙ looks_met standing table h ls (at + 22) k.1 e.1 rest

  -- puts, entered in turn, leave what stands after them
  module _ (s : S) (block : ℕ) (stamp : part bs block 8 ≡ o.form.written s) where
    put_entered : (at : ℕ) (table : List ℕ) (p : Put R) → length table ≡ 20 * n → p.number < n → Stands bs at (put_bytes o f p) → put_in bs block at table (number2 (part bs at 2)) ≡ row_put o f s p table
    put_entered at table p long k q =
        let x : number2 (part bs at 2) ≡ p.number = reads2 bs at p.number (omega arith) (first bs at (be2 p.number) (f.written p.value) q) in
        let v : part bs (at + 2) 12 ≡ f.written p.value = subst (λ (m : ℕ). part bs (at + 2) m ≡ f.written p.value) (formed.wide p.value) (second bs at (be2 p.number) (f.written p.value) q) in
        ap (put_in bs block at table) x
        ∙ cond-true (leb (20 * p.number + 20) (length table)) (laid_over (20 * p.number) (part bs block 8 ++ part bs (at + 2) 12) table) table (le-leb (20 * p.number + 20) (length table) (omega arith))
        ∙ ap (λ xs. laid_over (20 * p.number) (xs ++ part bs (at + 2) 12) table) stamp
        ∙ ap (λ xs. laid_over (20 * p.number) (o.form.written s ++ xs) table) v

    puts_entered : (ps : List (Put R)) (at : ℕ) (standing : StandingAt S R) (table : List ℕ) → Held o f n standing table → AllByRecursion (λ x. x < n) (put_numbers ps) → Pairwise ◌≢◌ (put_numbers ps)
        → Stands bs at (flat_map (put_bytes o f) ps) → Held o f n (λ x. under s (put_of x ps) (standing x)) (puts_after bs block at table (length ps))
    puts_entered [] at standing table h k d p = h
    puts_entered (q ∷ ps) at standing table h k d p =
        let here = first bs at (put_bytes o f q) (flat_map (put_bytes o f) ps) p in
        let rest = behind bs at 14 (put_bytes o f q) (flat_map (put_bytes o f) ps) (put_long o f laws formed q) p in
        let one : Held o f n (one_put s q standing) (row_put o f s q table) = held_put o f laws formed n s q k.0 standing table h in
        let i = puts_entered ps (at + 14) (one_put s q standing) (row_put o f s q table) one k.1 d.1 rest in
        subst (λ (t : List ℕ). Held o f n (λ x. under s (put_of x (q ∷ ps)) (standing x)) (puts_after bs block (at + 14) t (length ps))) (sym (put_entered at table q h.long k.0 here))
        (held_same o f n (λ x. under s (put_of x ps) (one_put s q standing x)) (λ x. under s (put_of x (q ∷ ps)) (standing x)) (puts_after bs block (at + 14) (row_put o f s q table) (length ps))
        (λ x. puts_in_turn s q ps x (standing x) d.0) i)

  -- what stands after a job's puts
  pub held_after : (a : AcceptedJob S R) (at : ℕ) (standing : StandingAt S R) (table : List ℕ) → BlockParts o f bs at a → NeatJob o n a → Held o f n standing table
      → Held o f n (after_job a standing) (puts_after bs at (at + 16 + 22 * length a.looks) table (length a.puts))
  held_after a at standing table parts neat h =
      let stamp : part bs at 8 ≡ o.form.written a.stamp = subst (λ (m : ℕ). part bs at m ≡ o.form.written a.stamp) (laws.wide a.stamp) parts.stamp in
      puts_entered a.stamp at stamp a.puts (at + 16 + 22 * length a.looks) standing table h (puts_inside o n a neat) neat.puts_apart parts.puts

  -- a block: its looks, and then the blocks behind it
  pub play_step : (a : AcceptedJob S R) (js : List (AcceptedJob S R)) (dir at : ℕ) (low : S) (table : List ℕ) → (w : Walk o f bs n dir at low (a ∷ js))
      → play_jobs o bs dir at low table (suc (length js)) ≡ onward (read_looks bs (at + 16) table (length a.looks)) (λ _.
      play_jobs o bs (dir + 8) (at + length_of o f bs a) w.0.block.stamp (puts_after bs at (at + 16 + 22 * length a.looks) table (length a.puts)) (length js))
  play_step a js dir at low table w =
      let len : ℕ = length_of o f bs a in
      ap (λ r. onward r (λ end. onward (read_front o bs at (end - at) low) (λ (h : Opened S). onward (read_looks bs (at + 16) table h.looks) (λ _.
      play_jobs o bs (dir + 8) end h.stamp (puts_after bs at (at + 16 + 22 * h.looks) table h.puts) (length js))))) w.0.pair.read
      ∙ ap (λ m. onward (read_front o bs at m low) (λ (h : Opened S). onward (read_looks bs (at + 16) table h.looks) (λ _.
      play_jobs o bs (dir + 8) (at + len) h.stamp (puts_after bs at (at + 16 + 22 * h.looks) table h.puts) (length js)))) (gap at len)
      ∙ ap (λ r. onward r (λ (h : Opened S). onward (read_looks bs (at + 16) table h.looks) (λ _.
      play_jobs o bs (dir + 8) (at + len) h.stamp (puts_after bs at (at + 16 + 22 * h.looks) table h.puts) (length js)))) w.0.block.front

  -- the blocks in turn
  pub play_walked : (js : List (AcceptedJob S R)) (dir at : ℕ) (low : S) (standing : StandingAt S R) (table : List ℕ) → Walk o f bs n dir at low js → AllByRecursion (NeatJob o n) js → BorneOutAlike o f standing js
      → Held o f n standing table → play_jobs o bs dir at low table (length js) ≡ Ok tt
  play_walked [] dir at low standing table w neat borne h = refl
  play_walked (a ∷ js) dir at low standing table w neat borne h =
      let b = w.0.block in
      play_step a js dir at low table w
      ∙ ap (λ r. onward r (λ _. play_jobs o bs (dir + 8) (at + length_of o f bs a) b.stamp (puts_after bs at (at + 16 + 22 * length a.looks) table (length a.puts)) (length js)))
      (looks_met standing table h a.looks (at + 16) (looks_inside o n a neat.0) borne.0 b.parts.looks)
      ∙ play_walked js (dir + 8) (at + length_of o f bs a) b.stamp (after_job a standing) (puts_after bs at (at + 16 + 22 * length a.looks) table (length a.puts)) w.1 neat.1 borne.1 (held_after a at standing table b.parts neat.0 h)

  -- and the other way round: a look that is borne out shows what stands
  look_shows : (standing : StandingAt S R) (table : List ℕ) → Held o f n standing table → (at : ℕ) (l : Look S R) → l.number < n → Stands bs at (look_bytes o f l) → read_look bs at table ≡ Ok tt → StandsAlike o f (standing l.number) l.saw
  look_shows standing table h at l k p q =
      let g = guarded (look_borne bs at table l.number) (Ok tt) (NotBorneOut at) tt (sym (ap (λ y. cond (look_borne bs at table y) (Ok tt) (Err (NotBorneOut at))) (look_number at l k p)) ∙ q) in
      let a = and_parts (leb (20 * l.number + 20) (length table)) _ g.0 in
      let w = h.stands l.number k in
      let e = rows_alike o f laws l.saw w.0 (sym (look_saw at l p) ∙ sym ((bytes_eq-Decides (part table (20 * l.number) 20) (part bs (at + 2) 20)).0 a.1) ∙ h.rows l.number w.0 k w.1) in
      record { stood = w.0; there = w.1; stamp = e.0; value = e.1 }

  looks_show : (standing : StandingAt S R) (table : List ℕ) → Held o f n standing table → (ls : List (Look S R)) (at : ℕ) → AllByRecursion (λ x. x < n) (look_numbers ls)
      → Stands bs at (flat_map (look_bytes o f) ls) → read_looks bs at table (length ls) ≡ Ok tt → AllByRecursion (λ (l : Look S R). StandsAlike o f (standing l.number) l.saw) ls
  looks_show standing table h [] at k p q = tt
  looks_show standing table h (l ∷ ls) at k p q =
      let here = first bs at (look_bytes o f l) (flat_map (look_bytes o f) ls) p in
      let rest = behind bs at 22 (look_bytes o f l) (flat_map (look_bytes o f) ls) (look_long o f laws formed l) p in
      let b = bound (read_look bs at table) (λ _. read_looks bs (at + 22) table (length ls)) tt q in
      (look_shows standing table h at l k.0 here b.1, looks_show standing table h ls (at + 22) k.1 rest b.2)

  -- blocks that are played without a fault bear their looks out
  pub play_bears : (js : List (AcceptedJob S R)) (dir at : ℕ) (low : S) (standing : StandingAt S R) (table : List ℕ) → Walk o f bs n dir at low js → AllByRecursion (NeatJob o n) js → Held o f n standing table
      → play_jobs o bs dir at low table (length js) ≡ Ok tt → BorneOutAlike o f standing js
  play_bears [] dir at low standing table w neat h q = tt
  play_bears (a ∷ js) dir at low standing table w neat h q =
      let b = w.0.block in
      let after : List ℕ = puts_after bs at (at + 16 + 22 * length a.looks) table (length a.puts) in
      let g = bound (read_looks bs (at + 16) table (length a.looks)) (λ _. play_jobs o bs (dir + 8) (at + length_of o f bs a) b.stamp after (length js)) tt (sym (play_step a js dir at low table w) ∙ q) in (
        looks_show standing table h a.looks (at + 16) (looks_inside o n a neat.0) b.parts.looks g.1,
        play_bears js (dir + 8) (at + length_of o f bs a) b.stamp (after_job a standing) after w.1 neat.1 (held_after a at standing table b.parts neat.0 h) g.2,
      )
