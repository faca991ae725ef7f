-- What is known of a block that was read.
use Rattle.std.proofs.Common.{◌≡◌, ℕ, suc, ◌+◌, ◌-◌, ◌*◌, ◌≤◌, true, cond, not, eqb, leb, List, get_or, Some, None, Ok, Err, Option, sym, refl, ap, subst, arith}
use Rattle.std.proofs.lemmas.Bool.{and_parts, not-true, leb-true, eqb-true}
use Rattle.kinds.specs.Bytes.{number4, part}
use Rattle.kinds.specs.Forms.{Form}
use Rattle.kinds.specs.Stamps.{Order, Before}
use Rattle.kinds.specs.Bounds.{NotAfter}
use Rattle.archive.specs.declared.fault.Fault.TheVariants.{BlockWrong}
use Rattle.archive.specs.declared.blocks.Opened.{Opened}
use Rattle.archive.specs.Faults.{onward}
use Rattle.archive.specs.Lengths.{block_length, length_right}
use Rattle.archive.specs.Directory.{stated_length, read_pair}
use Rattle.archive.specs.Names.{numbers, all_below, apart, names_right}
use Rattle.archive.specs.Values.{read_values}
use Rattle.archive.specs.Blocks.{stamp_at, all_noted, front_right, with_stamp, read_front, names_of, read_block, read_blocks}
use Rattle.archive.proofs.Fields.{guarded, bound, ok_same}
use Rattle.archive.proofs.Places.{look_values_at, put_values_at}
use Rattle.archive.proofs.KnownPairs.{PairSays, pair_says}

module _ {S : Type 0} (o : Order S) (bs : List ℕ) where
  -- the stamp was read, and with the two sizes it is what was opened
  front_says : (at len : ℕ) (low : S) (u : Option S) (x : Opened S) → with_stamp o bs at len low u ≡ Ok x
      → (s : S) × (u ≡ Some s) × (front_right o bs at len low s ≡ true) × (record { stamp = s; looks = get_or bs (at + 12) 0; puts = get_or bs (at + 13) 0 } ≡ x)
  front_says at len low (Some s) x q = let g = guarded (front_right o bs at len low s) _ (BlockWrong at) x q in (s, refl, g.0, ok_same _ _ g.1)
  front_says at len low None x q = let z : ◌≡◌ {A = ℕ} 0 1 = cc in absurd (omega arith)

  -- what the first 16 bytes say
  record FrontSays (at len : ℕ) (low s : S) : Type 0 where
    risen : Before o o.least s
    after : NotAfter o low s
    ticketed : 1 ≤ number4 (part bs (at + 8) 4)
    zeros : (get_or bs (at + 14) 0 ≡ 0) × (get_or bs (at + 15) 0 ≡ 0)
    long : len ≡ block_length (get_or bs (at + 12) 0) (get_or bs (at + 13) 0)

  right_says : (at len : ℕ) (low s : S) → front_right o bs at len low s ≡ true → FrontSays at len low s
  right_says at len low s h =
      let a = and_parts (o.before o.least s) _ h in
      let b = and_parts (not (o.before s low)) _ a.1 in
      let c = and_parts (leb 1 (number4 (part bs (at + 8) 4))) _ b.1 in
      let d = and_parts (eqb (get_or bs (at + 14) 0) 0) _ c.1 in
      let e = and_parts (eqb (get_or bs (at + 15) 0) 0) (length_right (get_or bs (at + 12) 0) (get_or bs (at + 13) 0) len) d.1 in
      let g = and_parts (leb (get_or bs (at + 12) 0) 16) _ e.1 in
      let i = and_parts (leb (get_or bs (at + 13) 0) 16) _ g.1 in
      record { risen = a.0; after = not-true (o.before s low) b.0; ticketed = leb-true _ _ c.0; zeros = (eqb-true _ _ d.0, eqb-true _ _ e.0); long = eqb-true _ _ i.1 }

module _ {S R : Type 0} (o : Order S) (f : Form R) (bs : List ℕ) where
  abbrev put_names : ℕ → List ℕ
  put_names at = numbers bs (at + 16 + 22 * get_or bs (at + 12) 0) 14 (get_or bs (at + 13) 0)

  abbrev look_names : ℕ → List ℕ
  look_names at = numbers bs (at + 16) 22 (get_or bs (at + 12) 0)

  -- what its first 16 bytes, its record numbers, its stamps and its values say
  pub record BlockSays (n at len : ℕ) (low : S) (h : Opened S) : Type 0 where
    pub stamp : S
    pub stamped : stamp_at o bs at ≡ Some stamp
    pub opens : stamp ≡ h.stamp
    pub risen : Before o o.least stamp
    pub after : NotAfter o low stamp
    pub ticketed : 1 ≤ number4 (part bs (at + 8) 4)
    pub zeros : (get_or bs (at + 14) 0 ≡ 0) × (get_or bs (at + 15) 0 ≡ 0)
    pub long : len ≡ block_length (get_or bs (at + 12) 0) (get_or bs (at + 13) 0)
    pub names : names_right n (look_names at) (put_names at) ≡ true
    pub below : all_below n (put_names at) ≡ true
    pub once : apart (put_names at) ≡ true
    pub noted : all_noted o bs (at + 16) (get_or bs (at + 12) 0) ≡ true
    pub look_values : read_values f bs (at + 16 + 10) 22 (get_or bs (at + 12) 0) ≡ Ok tt
    pub put_values : read_values f bs (at + 16 + 22 * get_or bs (at + 12) 0 + 2) 14 (get_or bs (at + 13) 0) ≡ Ok tt

  block_says : (n at len : ℕ) (low : S) (h : Opened S) → read_block o f bs n at len low ≡ Ok h → BlockSays n at len low h
  block_says n at len low h q =
      let r : ℕ = get_or bs (at + 12) 0 in
      let p : ℕ = get_or bs (at + 13) 0 in
      let a = bound (read_front o bs at len low) _ h q in
      let g = guarded (leb 16 len) (with_stamp o bs at len low (stamp_at o bs at)) (BlockWrong at) a.0 a.1 in
      let m = front_says o bs at len low (stamp_at o bs at) a.0 g.1 in
      let F : Opened S → Type 0 = λ x. cond (names_of o bs n at x.looks x.puts) (onward (read_values f bs (at + 26) 22 x.looks) (λ _. onward (read_values f bs (at + 18 + 22 * x.looks) 14 x.puts) (λ _. Ok x))) (Err (BlockWrong at)) ≡ Ok h in
      let b : F (record { stamp = m.0; looks = r; puts = p }) = subst F (sym m.3) a.2 in
      let c = guarded (names_of o bs n at r p) _ (BlockWrong at) h b in
      let d = and_parts (names_right n (look_names at) (put_names at)) (all_noted o bs (at + 16) r) c.0 in
      let e = and_parts (all_below n (look_names at)) _ d.0 in
      let i = and_parts (all_below n (put_names at)) _ e.1 in
      let j = and_parts (apart (look_names at)) _ i.1 in
      let l = and_parts (apart (put_names at)) _ j.1 in
      let v = bound (read_values f bs (at + 26) 22 r) _ h c.1 in
      let w = bound (read_values f bs (at + 18 + 22 * r) 14 p) _ h v.2 in
      let z = right_says o bs at len low m.0 m.2 in
      record {
        stamp = m.0;
        stamped = m.1;
        opens = ap (λ (x : Opened S). x.stamp) (ok_same _ _ w.2);
        risen = z.risen;
        after = z.after;
        ticketed = z.ticketed;
        zeros = z.zeros;
        long = z.long;
        names = d.0;
        below = i.0;
        once = l.0;
        noted = d.1;
        look_values = subst (λ (i : ℕ). read_values f bs i 22 r ≡ Ok tt) (look_values_at at) v.1;
        put_values = subst (λ (i : ℕ). read_values f bs i 14 p ≡ Ok tt) (put_values_at at r) w.1;
      }

  -- the first of some blocks, and the others behind it
  pub record FirstSays (dir at n m end : ℕ) (low : S) : Type 0 where
    pub pair : PairSays bs dir at (at + stated_length bs dir) (eqb m 0)
    pub opened : Opened S
    pub block : BlockSays n at (stated_length bs dir) low opened
    pub rest : read_blocks o f bs n (dir + 8) (at + stated_length bs dir) opened.stamp m ≡ Ok end

  pub first_says : (dir at n m end : ℕ) (low : S) → read_blocks o f bs n dir at low (suc m) ≡ Ok end → FirstSays dir at n m end low
  first_says dir at n m end low q =
      let a = bound (read_pair bs dir at (eqb m 0)) _ end q in
      let p = pair_says bs dir at a.0 (eqb m 0) a.1 in
      let b = bound (read_block o f bs n at (a.0 - at) low) _ end a.2 in
      let e : a.0 ≡ at + stated_length bs dir = sym p.ends in
      record {
        pair = subst (λ (i : ℕ). PairSays bs dir at i (eqb m 0)) e p;
        opened = b.0;
        block = subst (λ (i : ℕ). BlockSays n at i low b.0) (gap at (stated_length bs dir) a.0 e) (block_says n at (a.0 - at) low b.0 b.1);
        rest = subst (λ (i : ℕ). read_blocks o f bs n (dir + 8) i b.0.stamp m ≡ Ok end) e b.2;
      }
    where
      gap : (at n x : ℕ) → x ≡ at + n → x - at ≡ n
      gap at n x e = omega arith
