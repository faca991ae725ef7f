-- One accepted job more: the tables after it keep what they keep, and the jobs that wait last.
use Rattle.std.proofs.Common.{◌≡◌, ℕ, Bool, List, [], ◌∷◌, ◌++◌, length, Some, None, Option, sym, refl, ap, ◌∙◌, subst, ⊎_elim, arith}
use Rattle.std.specs.Option.{option_map}
use Rattle.std.specs.List.{AllByRecursion, slice_get}
use Rattle.std.proofs.ByRecursion.{All-weaker}
use Rattle.kinds.specs.Stamps.{Order, Ordered}
use Rattle.model.specs.declared.entry.Entry.{Entry}
use Rattle.model.specs.declared.row.Row.{Row}
use Rattle.model.specs.Rows.{Stood}
use Rattle.registrar.specs.Deciding.{rows_after, firsts_after}
use Rattle.law.specs.Daybook.{Look, AcceptedJob, accepted_job}
use Rattle.law.specs.Account.{put_of}
use Rattle.law.proofs.StampOrder.{some_none, Le, lt_le, le_trans}
use Rattle.law.proofs.Members.{In, in_push}
use Rattle.law.proofs.Views.{leaf, Distinct, looks_at, accepted_row, first_by}
use Rattle.law.proofs.Leaves.{looked_if}
use Rattle.law.proofs.Plays.{origin_in}
use Rattle.law.proofs.History.{Grown, passed_on, grown_by}
use Rattle.law.proofs.Jobs.{EntryOk}
use Rattle.law.proofs.RowLaws.{nth_some, rows_after_at, firsts_after_at}
use Rattle.law.proofs.Acceptance.{top_at, read_at, top_in, read_in, RowsOk, Fits, After, row_accepted, top_rises, read_rises, read_raised}

module _ {S R : Type 0} (o : Order S) (laws : Ordered o) (values : List R) (jobs : List (AcceptedJob S R)) (last : ℕ → Option (Stood S R)) (rows : List (Row S R)) (firsts : List (Option S)) (size : length rows ≡ length values) (size_first : length firsts ≡ length values) (ok : RowsOk o values jobs last rows firsts) (s : S) (ticket : ℕ) (es : List (Entry S R)) (distinct : Distinct es) (f : Fits o values jobs rows (accepted_job s ticket (leaf es))) where
  abbrev new : AcceptedJob S R
  new = accepted_job s ticket (leaf es)

  -- nothing is put past the end of a table
  outside : {A : Type 0} (table : List A) (x : ℕ) → length table ≡ length values → slice_get table x ≡ None → put_of x new.puts ≡ None
  outside table x n e = by (put_of x new.puts) refl
    where
      by : (p : Option R) → put_of x new.puts ≡ p → p ≡ None
      by None q = refl
      by (Some v) q = let l = f.puts_inside x v q in absurd (some_none (sym (nth_some table x (omega arith)).1 ∙ e))

  pub rows_grown : RowsOk o values (jobs ++ (new ∷ [])) last (rows_after o s es rows) (firsts_after s es firsts)
  rows_grown =
      record {
        row = λ x.
            subst (λ (z : Option (Option S)). After o laws values jobs last rows firsts ok new f x (slice_get (rows_after o s es rows) x) z) (sym (firsts_after_at s es distinct firsts x))
            (subst (λ (z : Option (Row S R)). After o laws values jobs last rows firsts ok new f x z (option_map (first_by s (put_of x new.puts)) (slice_get firsts x))) (sym (rows_after_at o s es distinct rows x))
            (row_accepted o laws values jobs last rows firsts ok new f x (looks_at x new.looks) (put_of x new.puts) refl (slice_get rows x) (slice_get firsts x) refl refl (outside rows x size) (outside firsts x size_first)));
        reads = λ a m l n. ⊎_elim (old a l n) (new_look a l n) (in_push jobs new m);
      }
    where
      after_read : (x : ℕ) → read_at o (rows_after o s es rows) x ≡ read_in o (option_map (accepted_row o s (put_of x new.puts) (looks_at x new.looks)) (slice_get rows x))
      after_read x = ap (read_in o) (rows_after_at o s es distinct rows x)

      old : (a : AcceptedJob S R) (l : Look S R) → In l a.looks → In a jobs → Le o a.stamp (read_at o (rows_after o s es rows) l.number)
      old a l n m =
          subst (λ (z : S). Le o a.stamp z) (sym (after_read l.number))
          (le_trans o laws _ _ _ (ok.reads a m l n) (read_rises o laws values jobs last rows firsts ok new f (looks_at l.number new.looks) (put_of l.number new.puts) (slice_get rows l.number)))

      raised : (l : Look S R) → In l new.looks → Le o s (read_at o (rows_after o s es rows) l.number)
      raised l n =
          let h = f.looks_inside l n in
          let r = nth_some rows l.number (omega arith) in
          subst (λ (z : S). Le o s z) (sym (after_read l.number))
          (subst (λ (z : Option (Row S R)). Le o s (read_in o (option_map (accepted_row o s (put_of l.number new.puts) (looks_at l.number new.looks)) z))) (sym r.1)
          (subst (λ (b : Bool). Le o s (read_in o (Some (accepted_row o s (put_of l.number new.puts) b r.0)))) (sym (looked_if new.looks l n))
          (read_raised o laws values jobs last rows firsts ok new f (put_of l.number new.puts) r.0)))

      new_look : (a : AcceptedJob S R) (l : Look S R) → In l a.looks → a ≡ new → Le o a.stamp (read_at o (rows_after o s es rows) l.number)
      new_look a l n e =
          subst (λ (z : AcceptedJob S R). Le o z.stamp (read_at o (rows_after o s es rows) l.number)) (sym e) (raised l (subst (λ (z : AcceptedJob S R). In l z.looks) e n))

  -- at every record the writes went on behind the last
  pub grown : (x : ℕ) → Grown o jobs (jobs ++ (new ∷ [])) x (top_at o rows x) (top_at o (rows_after o s es rows) x)
  grown x =
      grown_by o laws jobs new x (top_at o rows x) (top_at o (rows_after o s es rows) x)
      (subst (λ (z : Option (Row S R)). Le o (top_at o rows x) (top_in o z)) (sym (rows_after_at o s es distinct rows x)) (top_rises o laws values jobs last rows firsts ok new f x (looks_at x new.looks) (put_of x new.puts) refl (slice_get rows x) refl))
      (λ v e. lt_le o laws _ _ (f.over_write x v e))

-- what a job noted lasts while the writes go on
module _ {S R : Type 0} (o : Order S) (laws : Ordered o) (values : List R) (jobs more : List (AcceptedJob S R)) (top top' : ℕ → S) (keeps : (d : AcceptedJob S R) → In d jobs → In d more) (g : (x : ℕ) → Grown o jobs more x (top x) (top' x)) where
  pub entries_last : (shown : ℕ → Option (Stood S R)) (lower : S) (upper : Option S) (es : List (Entry S R)) → AllByRecursion (EntryOk o values jobs top shown lower upper) es → AllByRecursion (EntryOk o values more top' shown lower upper) es
  entries_last shown lower upper es h =
      All-weaker (EntryOk o values jobs top shown lower upper) (EntryOk o values more top' shown lower upper)
      (λ e q s. let z = q s in
      record {
        origin = origin_in o values jobs more e.number (record { value = e.saw; stamp = e.noted }) keeps z.origin;
        low = z.low;
        stays = z.stays;
        shuts = λ c. let t = z.shuts c in record { bound = t.bound; is = t.is; passed = passed_on o laws (g e.number) e.noted t.bound t.passed };
      }) es h
