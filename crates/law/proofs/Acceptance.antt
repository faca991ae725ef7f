-- What an acceptance shows, and that rows, accepted jobs and waiting jobs keep what they keep.
use Rattle.std.proofs.Common.{◌≡◌, ℕ, ◌<◌, Bool, true, false, ◌⊎◌, List, [], ◌∷◌, ◌++◌, length, take, Some, None, Option, sym, refl, ap, ◌∙◌, subst, inl, inr, ⊎_elim, arith}
use Rattle.std.specs.Option.{option_map}
use Rattle.std.specs.List.{AllByRecursion, slice_get}
use Rattle.std.proofs.lemmas.Bool.{false≢true, cases_Bool}
use Rattle.kinds.specs.Stamps.{Order, Ordered, Kind, Lawful}
use Rattle.kinds.specs.Bounds.{later}
use Rattle.model.specs.declared.entry.Entry.{Entry}
use Rattle.model.specs.declared.row.Row.{Row}
use Rattle.model.specs.declared.verdict.Verdict.TheVariants.{Accepted}
use Rattle.model.specs.Rows.{Stood, stood, write_of, older, with_put, with_look}
use Rattle.station.specs.Station.{narrowed}
use Rattle.registrar.specs.Deciding.{Waiting, following, bounded_by, and_then, upper_bound, last_use, lower_bound, placed, within, unless_overtaken, first_kept}
use Rattle.law.specs.Daybook.{Look, AcceptedJob, accepted_job}
use Rattle.law.specs.Account.{put_of}
use Rattle.law.proofs.StampOrder.{some_none, some_inj, Lt, Le, le_refl, lt_le, le_trans, lt_le_trans, le_lt_trans, least_le, later_left, later_right, Under, narrowed_new, narrowed_old, pick_after, pick_under}
use Rattle.law.proofs.Members.{In, in_none, in_cons, in_left, in_push, all_in, pairs_push}
use Rattle.law.proofs.Views.{leaf, accepted_row, first_by}
use Rattle.law.proofs.Leaves.{look_from, put_from}
use Rattle.law.proofs.Plays.{FairBoth, Wrote, Origin, origin_in, Sound}
use Rattle.law.proofs.History.{Passed, Versions, RowOk, Located, located, row_left, row_put}
use Rattle.law.proofs.Bounds.{lower_over, lower_put}
use Rattle.law.proofs.Jobs.{SeenOk, EntryOk}
use Rattle.law.proofs.RowLaws.{nth_some, write_put, value_put, read_put, older_put}

-- what the tables hold at a record; past their end the least stamp and nothing else
module _ {S R : Type 0} (o : Order S) where
  abbrev pub top_in : Option (Row S R) → S
  top_in None = o.least
  top_in (Some r) = write_of r

  abbrev pub read_in : Option (Row S R) → S
  read_in None = o.least
  read_in (Some r) = r.read

  abbrev pub top_at : List (Row S R) → ℕ → S
  top_at rows x = top_in (slice_get rows x)

  abbrev pub read_at : List (Row S R) → ℕ → S
  read_at rows x = read_in (slice_get rows x)

module _ {S R : Type 0} where
  abbrev pub older_in : Option (Row S R) → List S
  older_in None = []
  older_in (Some r) = older r

  abbrev pub older_at : List (Row S R) → ℕ → List S
  older_at rows x = older_in (slice_get rows x)

  abbrev pub stood_at : List (Row S R) → ℕ → Option (Stood S R)
  stood_at rows x = option_map stood (slice_get rows x)

module _ {S : Type 0} where
  abbrev pub first_in : Option (Option S) → Option S
  first_in None = None
  first_in (Some f) = f

  abbrev pub first_at : List (Option S) → ℕ → Option S
  first_at firsts x = first_in (slice_get firsts x)

-- an acceptance: the upper bound was found, and pick answered
module _ {S : Type 0} (k : Kind S) where
  pub record Picked (lower : S) (found : Option (Option S)) (s : S) : Type 0 where
    pub upper : Option S
    pub is : found ≡ Some upper
    pub picks : k.pick lower upper ≡ Some s

  placed_some : (lower : S) (u p : Option S) (s : S) → k.pick lower u ≡ p → placed p ≡ Accepted s → k.pick lower u ≡ Some s
  placed_some lower u None s q e = let z : ◌≡◌ {A = ℕ} 0 1 = cc in absurd (let y : ⊥ = omega arith in y)
  placed_some lower u (Some t) s q e = let y : t ≡ s = cc in q ∙ ap (λ (z : S). Some z) y

  pub accepted_by : (b : Bool) (lower : S) (found : Option (Option S)) (s : S) → unless_overtaken b (within k lower found) ≡ Accepted s → Picked lower found s
  accepted_by true lower found s e = let z : ◌≡◌ {A = ℕ} 0 1 = cc in absurd (let y : ⊥ = omega arith in y)
  accepted_by false lower None s e = let z : ◌≡◌ {A = ℕ} 0 1 = cc in absurd (let y : ⊥ = omega arith in y)
  accepted_by false lower (Some u) s e = record { upper = u; is = refl; picks = placed_some lower u (k.pick lower u) s refl e }

module _ {S R : Type 0} (o : Order S) (laws : Ordered o) (rows : List (Row S R)) where
  bounded_old : (es : List (Entry S R)) (u bound : Option S) (g : S) → upper_bound o rows es u ≡ Some bound → Under o laws u g → Under o laws bound g
  bounded_old [] u bound g e h = subst (λ (z : Option S). Under o laws z g) (some_inj e) h
  bounded_old (f ∷ fs) u bound g e h = by f.opened (following o f.noted (slice_get rows f.number)) e (λ v q n. bounded_old fs v bound g q n)
    where
      by : (b : Bool) (p : Option (Option S)) → and_then (upper_bound o rows fs) (bounded_by o b p u) ≡ Some bound → ((v : Option S) → upper_bound o rows fs v ≡ Some bound → Under o laws v g → Under o laws bound g) → Under o laws bound g
      by false p e ih = ih u e h
      by true None e ih = absurd (some_none (sym e))
      by true (Some next) e ih = ih (narrowed o u next) e (narrowed_old o laws u next g h)

  -- an open entry's stamp was found, and the bound is not after what follows it
  record Placed (bound : Option S) (e : Entry S R) : Type 0 where
    next : Option S
    found : following o e.noted (slice_get rows e.number) ≡ Some next
    bounds : (n : S) → next ≡ Some n → Under o laws bound n

  bounded_new : (es : List (Entry S R)) (u bound : Option S) → upper_bound o rows es u ≡ Some bound → (e : Entry S R) → In e es → e.opened ≡ true → Placed bound e
  bounded_new [] u bound q e m p = in_none m
  bounded_new (f ∷ fs) u bound q e m p = by f.opened refl (following o f.noted (slice_get rows f.number)) refl q (λ v r. bounded_new fs v bound r e) (in_cons m)
    where
      by : (b : Bool) → f.opened ≡ b → (t : Option (Option S)) → following o f.noted (slice_get rows f.number) ≡ t → and_then (upper_bound o rows fs) (bounded_by o b t u) ≡ Some bound → ((v : Option S) → upper_bound o rows fs v ≡ Some bound → In e fs → e.opened ≡ true → Placed bound e) → (e ≡ f) ⊎ In e fs → Placed bound e
      by false c t r q ih (inl h) = absurd (false≢true (sym c ∙ ap (λ (z : Entry S R). z.opened) (sym h) ∙ p))
      by false c t r q ih (inr n) = ih u q n p
      by true c None r q ih m = absurd (some_none (sym q))
      by true c (Some next) r q ih (inl h) =
          record {
            next = next;
            found = ap (λ (z : Entry S R). following o z.noted (slice_get rows z.number)) h ∙ r;
            bounds = λ n i. bounded_old fs (narrowed o u next) bound n q (narrowed_new o laws u next n i);
          }
      by true c (Some next) r q ih (inr n) = ih (narrowed o u next) q n p

module _ {S R : Type 0} (o : Order S) (values : List R) (jobs : List (AcceptedJob S R)) where
  -- what an accepted job shows against the ones accepted before it
  pub record Fits (rows : List (Row S R)) (d : AcceptedJob S R) : Type 0 where
    pub origin : (l : Look S R) → In l d.looks → Origin o values jobs l.number l.saw
    pub after : (l : Look S R) → In l d.looks → Lt o l.saw.stamp d.stamp
    pub clear : (l : Look S R) → In l d.looks → (w : Stood S R) → Wrote jobs l.number w → Le o w.stamp l.saw.stamp ⊎ Lt o d.stamp w.stamp
    pub over_write : (x : ℕ) (v : R) → put_of x d.puts ≡ Some v → Lt o (top_at o rows x) d.stamp
    pub over_read : (x : ℕ) (v : R) → put_of x d.puts ≡ Some v → Lt o (read_at o rows x) d.stamp
    pub risen : Lt o o.least d.stamp
    pub puts_inside : (x : ℕ) (v : R) → put_of x d.puts ≡ Some v → x < length values
    pub looks_inside : (l : Look S R) → In l d.looks → l.number < length values

  -- what the register keeps of the accepted jobs; last is what the last image showed
  pub record RowsOk (last : ℕ → Option (Stood S R)) (rows : List (Row S R)) (firsts : List (Option S)) : Type 0 where
    pub row : (x : ℕ) → RowOk o values jobs x (last x) (stood_at rows x) (top_at o rows x) (older_at rows x) (first_at firsts x)
    pub reads : (d : AcceptedJob S R) → In d jobs → (l : Look S R) → In l d.looks → Le o d.stamp (read_at o rows l.number)

-- a job that is accepted fits
module _ {S R : Type 0} (k : Kind S) (laws : Lawful k) (values : List R) (jobs : List (AcceptedJob S R)) (last : ℕ → Option (Stood S R)) (rows : List (Row S R)) (firsts : List (Option S)) (size : length rows ≡ length values) (ok : RowsOk k.order values jobs last rows firsts) (shown : ℕ → Option (Stood S R)) (w : Waiting S R) (entries-ok : AllByRecursion (EntryOk k.order values jobs (top_at k.order rows) shown w.lower w.upper) w.entries) (inside : AllByRecursion (λ (e : Entry S R). e.number < length values) w.entries) (s : S) (p : Picked k (lower_bound k.order rows w.entries w.lower) (upper_bound k.order rows w.entries w.upper) s) where
  above : (a : S) → Le k.order a (lower_bound k.order rows w.entries w.lower) → Lt k.order a s
  above a l = le_lt_trans k.order laws.ordered a (lower_bound k.order rows w.entries w.lower) s l (pick_after k laws (lower_bound k.order rows w.entries w.lower) p.upper s p.picks)

  below : (g : S) → Under k.order laws.ordered p.upper g → Lt k.order s g
  below g u = pick_under k laws (lower_bound k.order rows w.entries w.lower) p.upper s g p.picks u

  seen : (e : Entry S R) → In e w.entries → e.seen ≡ true → SeenOk k.order values jobs (top_at k.order rows e.number) (shown e.number) w.lower w.upper e.number (record { value = e.saw; stamp = e.noted }) e.opened
  seen e m q = all_in (EntryOk k.order values jobs (top_at k.order rows) shown w.lower w.upper) m entries-ok q

  gap_below : (x : ℕ) (a b : S) → Passed k.order jobs x (top_at k.order rows x) a b → Lt k.order s b → (t : Stood S R) → Wrote jobs x t → Le k.order t.stamp a ⊎ Lt k.order s t.stamp
  gap_below x a b h l t q = ⊎_elim inl (λ z. inr (lt_le_trans k.order laws.ordered s b t.stamp l z)) (h.gap t q)

  -- where a version was found, it says what passed since
  found_at : (noted : S) (x : ℕ) (next : Option S) → following k.order noted (slice_get rows x) ≡ Some next → Located k.order laws.ordered jobs x (top_at k.order rows x) noted next
  found_at noted x next e = by (slice_get rows x) (ok.row x).versions e
    where
      by : (r : Option (Row S R)) → Versions k.order jobs x (top_in k.order r) (top_in k.order r) (older_in r) → following k.order noted r ≡ Some next → Located k.order laws.ordered jobs x (top_in k.order r) noted next
      by None h e = absurd (some_none (sym e))
      by (Some r) h e = located k.order laws.ordered jobs x (write_of r) noted (older r) h next e

  entry_clear : (e : Entry S R) → In e w.entries → e.seen ≡ true → (t : Stood S R) → Wrote jobs e.number t → Le k.order t.stamp e.noted ⊎ Lt k.order s t.stamp
  entry_clear e m q t h = ⊎_elim when_open when_closed (cases_Bool e.opened)
    where
      when_closed : e.opened ≡ false → Le k.order t.stamp e.noted ⊎ Lt k.order s t.stamp
      when_closed c =
          let z = (seen e m q).shuts c in
          gap_below e.number e.noted z.bound z.passed
          (below z.bound (bounded_old k.order laws.ordered rows w.entries w.upper p.upper z.bound p.is (record { bound = z.bound; is = z.is; low = le_refl k.order laws.ordered z.bound }))) t h

      by : (n : Option S) → Located k.order laws.ordered jobs e.number (top_at k.order rows e.number) e.noted n → ((b : S) → n ≡ Some b → Under k.order laws.ordered p.upper b) → Le k.order t.stamp e.noted ⊎ Lt k.order s t.stamp
      by None lo b = inl (le_trans k.order laws.ordered _ _ _ ((ok.row e.number).last t h) (lo.latest refl))
      by (Some n) lo b = gap_below e.number e.noted n (lo.followed n refl) (below n (b n refl)) t h

      when_open : e.opened ≡ true → Le k.order t.stamp e.noted ⊎ Lt k.order s t.stamp
      when_open c =
          let z = bounded_new k.order laws.ordered rows w.entries w.upper p.upper p.is e m c in
          by z.next (found_at e.noted e.number z.next z.found) z.bounds

  -- the stamp is after the read and the write stamp of what the job puts
  record Over (e : Entry S R) : Type 0 where
    write : Lt k.order (top_at k.order rows e.number) s
    read : Lt k.order (read_at k.order rows e.number) s

  over : (e : Entry S R) → In e w.entries → e.put ≡ true → Over e
  over e m q =
      let l : e.number < length values = all_in (λ (e : Entry S R). e.number < length values) m inside in
      let r = nth_some rows e.number (omega arith) in
      by (slice_get rows e.number) refl r.0 r.1
    where
      by : (t : Option (Row S R)) → slice_get rows e.number ≡ t → (r : Row S R) → t ≡ Some r → Over e
      by None a r b = absurd (some_none (sym b))
      by (Some t) a r b =
          let up : Le k.order (later k.order t.read (write_of t)) (lower_bound k.order rows w.entries w.lower) = lower_put k.order laws.ordered (λ x. last_use k.order (slice_get rows x)) w.entries w.lower e (later k.order t.read (write_of t)) m q (ap (last_use k.order) a) in
          record {
            write = subst (λ (z : Option (Row S R)). Lt k.order (top_in k.order z) s) (sym a) (above (write_of t) (le_trans k.order laws.ordered _ _ _ (later_right k.order laws.ordered t.read (write_of t)) up));
            read = subst (λ (z : Option (Row S R)). Lt k.order (read_in k.order z) s) (sym a) (above t.read (le_trans k.order laws.ordered _ _ _ (later_left k.order laws.ordered t.read (write_of t)) up));
          }

  pub fits : (ticket : ℕ) → Fits k.order values jobs rows (accepted_job s ticket (leaf w.entries))
  fits ticket =
      record {
        origin = λ l m. let h = look_from w.entries l m in subst (λ (z : Look S R). Origin k.order values jobs z.number z.saw) (sym h.is) (seen h.entry h.member h.is_seen).origin;
        after = λ l m. let h = look_from w.entries l m in subst (λ (z : Look S R). Lt k.order z.saw.stamp s) (sym h.is) (above _ (le_trans k.order laws.ordered _ _ _ (seen h.entry h.member h.is_seen).low (lower_over k.order laws.ordered (λ x. last_use k.order (slice_get rows x)) w.entries w.lower)));
        clear = λ l m. let h = look_from w.entries l m in subst (λ (z : Look S R). (t : Stood S R) → Wrote jobs z.number t → Le k.order t.stamp z.saw.stamp ⊎ Lt k.order s t.stamp) (sym h.is) (entry_clear h.entry h.member h.is_seen);
        over_write = λ x v q. let h = put_from w.entries x v q in subst (λ (z : ℕ). Lt k.order (top_at k.order rows z) s) (sym h.is) (over h.entry h.member h.is_put).write;
        over_read = λ x v q. let h = put_from w.entries x v q in subst (λ (z : ℕ). Lt k.order (read_at k.order rows z) s) (sym h.is) (over h.entry h.member h.is_put).read;
        risen = above k.order.least (least_le k.order laws.ordered (lower_bound k.order rows w.entries w.lower));
        puts_inside = λ x v q. let h = put_from w.entries x v q in subst (λ (z : ℕ). z < length values) (sym h.is) (all_in (λ (e : Entry S R). e.number < length values) h.member inside);
        looks_inside = λ l m. let h = look_from w.entries l m in subst (λ (z : Look S R). z.number < length values) (sym h.is) (all_in (λ (e : Entry S R). e.number < length values) h.member inside);
      }

-- a job that fits joins the accepted ones
module _ {S R : Type 0} (o : Order S) (laws : Ordered o) (values : List R) (jobs : List (AcceptedJob S R)) (last : ℕ → Option (Stood S R)) (rows : List (Row S R)) (firsts : List (Option S)) (ok : RowsOk o values jobs last rows firsts) (d : AcceptedJob S R) (f : Fits o values jobs rows d) where
  fair_old : (a : AcceptedJob S R) → In a jobs → FairBoth o a d
  fair_old a m = (
    record { apart = λ x u v p q. inl (lower x u v p q); clear = λ l n v q. inr (le_lt_trans o laws _ _ _ (ok.reads a m l n) (f.over_read l.number v q)) },
    record { apart = λ x u v p q. inr (lower x v u q p); clear = λ l n v q. f.clear l n (record { value = v; stamp = a.stamp }) (record { job = a; member = m; puts = q; stamps = refl }) },
  )
    where
      lower : (x : ℕ) (u v : R) → put_of x a.puts ≡ Some u → put_of x d.puts ≡ Some v → Lt o a.stamp d.stamp
      lower x u v p q = le_lt_trans o laws _ _ _ ((ok.row x).last (record { value = u; stamp = a.stamp }) (record { job = a; member = m; puts = p; stamps = refl })) (f.over_write x v q)

  pub sound_push : Sound o values jobs → Sound o values (jobs ++ (d ∷ []))
  sound_push h =
      record {
        pairs = pairs_push (FairBoth o) jobs d h.pairs fair_old;
        origin = λ a m l n. origin_in o values jobs (jobs ++ (d ∷ [])) l.number l.saw (λ b z. in_left (d ∷ []) z) (⊎_elim (λ z. h.origin a z l n) (λ e. f.origin l (subst (λ (z : AcceptedJob S R). In l z.looks) e n)) (in_push jobs d m));
        after = λ a m l n. ⊎_elim (λ z. h.after a z l n) (λ e. subst (λ (z : AcceptedJob S R). Lt o l.saw.stamp z.stamp) (sym e) (f.after l (subst (λ (z : AcceptedJob S R). In l z.looks) e n))) (in_push jobs d m);
        risen = λ a m. ⊎_elim (h.risen a) (λ e. subst (λ (z : AcceptedJob S R). Lt o o.least z.stamp) (sym e) f.risen) (in_push jobs d m);
      }

  -- a row after the job, by whether it puts and looks there
  abbrev pub After : (x : ℕ) → Option (Row S R) → Option (Option S) → Type 0
  After x r g = RowOk o values (jobs ++ (d ∷ [])) x (last x) (option_map stood r) (top_in o r) (older_in r) (first_in g)

  pub row_accepted : (x : ℕ) (b : Bool) (p : Option R) → put_of x d.puts ≡ p → (r : Option (Row S R)) (g : Option (Option S)) → slice_get rows x ≡ r → slice_get firsts x ≡ g → (r ≡ None → put_of x d.puts ≡ None) → (g ≡ None → put_of x d.puts ≡ None) → After x (option_map (accepted_row o d.stamp p b) r) (option_map (first_by d.stamp p) g)
  row_accepted x b p e r g i j inr-ok ing-ok = by b p e r g (subst (λ (z : Option (Option S)). RowOk o values jobs x (last x) (option_map stood r) (top_in o r) (older_in r) (first_in z)) j (subst (λ (z : Option (Row S R)). RowOk o values jobs x (last x) (option_map stood z) (top_in o z) (older_in z) (first_at firsts x)) i (ok.row x))) (subst (λ (z : Option (Row S R)). (v : R) → put_of x d.puts ≡ Some v → Lt o (top_in o z) d.stamp) i (f.over_write x)) inr-ok ing-ok
    where
      left : (r : Option (Row S R)) (g : Option (Option S)) → RowOk o values jobs x (last x) (option_map stood r) (top_in o r) (older_in r) (first_in g) → put_of x d.puts ≡ None → After x r g
      left r g h e = row_left o laws jobs d values x (last x) (option_map stood r) (top_in o r) (older_in r) (first_in g) h e

      none_of : (v : R) → put_of x d.puts ≡ Some v → put_of x d.puts ≡ None → ⊥
      none_of v e n = some_none (sym e ∙ n)

      written : (t : Row S R) (u : Row S R) (v : R) (g : Option S) → (u.value ≡ v) → write_of u ≡ d.stamp → older u ≡ take 3 (write_of t ∷ older t) → RowOk o values (jobs ++ (d ∷ [])) x (last x) (Some (record { value = v; stamp = d.stamp })) d.stamp (take 3 (write_of t ∷ older t)) (first_kept d.stamp g) → After x (Some u) (Some (first_kept d.stamp g))
      written t u v g a b c h =
          subst (λ (z : List S). RowOk o values (jobs ++ (d ∷ [])) x (last x) (Some (stood u)) (write_of u) z (first_kept d.stamp g)) (sym c)
          (subst (λ (z : S). RowOk o values (jobs ++ (d ∷ [])) x (last x) (Some (record { value = u.value; stamp = z })) z (take 3 (write_of t ∷ older t)) (first_kept d.stamp g)) (sym b)
          (subst (λ (z : R). RowOk o values (jobs ++ (d ∷ [])) x (last x) (Some (record { value = z; stamp = d.stamp })) d.stamp (take 3 (write_of t ∷ older t)) (first_kept d.stamp g)) (sym a) h))

      put : (t : Row S R) (g : Option S) (v : R) → put_of x d.puts ≡ Some v → RowOk o values jobs x (last x) (Some (stood t)) (write_of t) (older t) g → Lt o (write_of t) d.stamp → After x (Some (with_put v d.stamp t)) (Some (first_kept d.stamp g))
      put t g v e h l =
          written t (with_put v d.stamp t) v g (value_put v d.stamp t) (write_put v d.stamp t) (older_put v d.stamp t)
          (row_put o laws jobs d values x (last x) (Some (stood t)) (write_of t) (older t) g h v e l)

      by : (b : Bool) (p : Option R) → put_of x d.puts ≡ p → (r : Option (Row S R)) (g : Option (Option S)) → RowOk o values jobs x (last x) (option_map stood r) (top_in o r) (older_in r) (first_in g) → ((v : R) → put_of x d.puts ≡ Some v → Lt o (top_in o r) d.stamp) → (r ≡ None → put_of x d.puts ≡ None) → (g ≡ None → put_of x d.puts ≡ None) → After x (option_map (accepted_row o d.stamp p b) r) (option_map (first_by d.stamp p) g)
      by b None e None None h l m n = left None None h e
      by b None e None (Some g) h l m n = left None (Some g) h e
      by true None e (Some t) None h l m n = left (Some t) None h e
      by false None e (Some t) None h l m n = left (Some t) None h e
      by true None e (Some t) (Some g) h l m n = left (Some t) (Some g) h e
      by false None e (Some t) (Some g) h l m n = left (Some t) (Some g) h e
      by b (Some v) e None g h l m n = absurd (none_of v e (m refl))
      by b (Some v) e (Some t) None h l m n = absurd (none_of v e (n refl))
      by true (Some v) e (Some t) (Some g) h l m n = put (with_look o d.stamp t) g v e h (l v e)
      by false (Some v) e (Some t) (Some g) h l m n = put t g v e h (l v e)

  -- the write stamps only rise
  pub top_rises : (x : ℕ) (b : Bool) (p : Option R) → put_of x d.puts ≡ p → (r : Option (Row S R)) → slice_get rows x ≡ r → Le o (top_in o r) (top_in o (option_map (accepted_row o d.stamp p b) r))
  top_rises x b p e None i = le_refl o laws o.least
  top_rises x true None e (Some t) i = le_refl o laws (write_of t)
  top_rises x false None e (Some t) i = le_refl o laws (write_of t)
  top_rises x true (Some v) e (Some t) i =
      subst (λ (z : S). Le o (write_of t) z) (sym (write_put v d.stamp (with_look o d.stamp t))) (lt_le o laws _ _ (subst (λ (z : Option (Row S R)). Lt o (top_in o z) d.stamp) i (f.over_write x v e)))
  top_rises x false (Some v) e (Some t) i =
      subst (λ (z : S). Le o (write_of t) z) (sym (write_put v d.stamp t)) (lt_le o laws _ _ (subst (λ (z : Option (Row S R)). Lt o (top_in o z) d.stamp) i (f.over_write x v e)))

  -- the read stamps too, and a look raises its record's
  pub read_rises : (b : Bool) (p : Option R) (r : Option (Row S R)) → Le o (read_in o r) (read_in o (option_map (accepted_row o d.stamp p b) r))
  read_rises b p None = le_refl o laws o.least
  read_rises true None (Some t) = later_left o laws t.read d.stamp
  read_rises false None (Some t) = le_refl o laws t.read
  read_rises true (Some v) (Some t) = subst (λ (z : S). Le o t.read z) (sym (read_put v d.stamp (with_look o d.stamp t))) (later_left o laws t.read d.stamp)
  read_rises false (Some v) (Some t) = subst (λ (z : S). Le o t.read z) (sym (read_put v d.stamp t)) (le_refl o laws t.read)

  pub read_raised : (p : Option R) (t : Row S R) → Le o d.stamp (read_in o (Some (accepted_row o d.stamp p true t)))
  read_raised None t = later_right o laws t.read d.stamp
  read_raised (Some v) t = subst (λ (z : S). Le o d.stamp z) (sym (read_put v d.stamp (with_look o d.stamp t))) (later_right o laws t.read d.stamp)
