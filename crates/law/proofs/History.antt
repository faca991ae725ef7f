-- What holds between the accepted writes of a record, its row, its images and the jobs that saw it; and how it lasts.
use Rattle.std.proofs.Common.{◌≡◌, ℕ, zero, suc, Bool, true, false, cond, ◌⊎◌, List, [], ◌∷◌, ◌++◌, take, Some, None, Option, sym, refl, ap, ◌∙◌, subst, inl, inr, ⊎_elim}
use Rattle.kinds.specs.Stamps.{Order, Ordered}
use Rattle.kinds.specs.Bounds.{same}
use Rattle.model.specs.Rows.{Stood}
use Rattle.registrar.specs.Deciding.{follows_in, first_kept}
use Rattle.law.specs.Daybook.{AcceptedJob}
use Rattle.law.specs.Account.{put_of}
use Rattle.law.proofs.StampOrder.{some_none, some_inj, Lt, Le, le_refl, lt_le, le_trans, same_le}
use Rattle.law.proofs.Members.{in_left, in_last, in_push}
use Rattle.law.proofs.Plays.{Wrote, Origin, origin_in}

module _ {S R : Type 0} (o : Order S) where
  -- b is not after the last write of x, and no write of x is strictly between a and b
  pub record Passed (jobs : List (AcceptedJob S R)) (x : ℕ) (top a b : S) : Type 0 where
    pub reached : Le o b top
    pub gap : (w : Stood S R) → Wrote jobs x w → Le o w.stamp a ⊎ Le o b w.stamp

  -- from what stood to what stands, by the first write between
  abbrev pub Since : List (AcceptedJob S R) → ℕ → S → Option (Stood S R) → Option (Stood S R) → Option S → Type 0
  Since jobs x top old new None = new ≡ old
  Since jobs x top old new (Some f) = (w : Stood S R) → old ≡ Some w → Passed jobs x top w.stamp f

  -- versions, the newest first: no write between two neighbours
  abbrev pub Versions : List (AcceptedJob S R) → ℕ → S → S → List S → Type 0
  Versions jobs x top newer [] = Unit {0}
  Versions jobs x top newer (v ∷ vs) = Passed jobs x top v newer × Versions jobs x top v vs

  -- the writes of x went on, all of them behind the last
  pub record Grown (jobs more : List (AcceptedJob S R)) (x : ℕ) (top top' : S) : Type 0 where
    pub up : Le o top top'
    pub new : (w : Stood S R) → Wrote more x w → Wrote jobs x w ⊎ Le o top w.stamp

module _ {S R : Type 0} (o : Order S) (laws : Ordered o) where
  module _ {jobs more : List (AcceptedJob S R)} {x : ℕ} {top top' : S} (g : Grown o jobs more x top top') where
    pub passed_on : (a b : S) → Passed o jobs x top a b → Passed o more x top' a b
    passed_on a b p =
        record {
          reached = le_trans o laws b top top' p.reached g.up;
          gap = λ w h. ⊎_elim (p.gap w) (λ l. inr (le_trans o laws b top w.stamp p.reached l)) (g.new w h);
        }

    pub since_on : (old new : Option (Stood S R)) (f : Option S) → Since o jobs x top old new f → Since o more x top' old new f
    since_on old new None h = h
    since_on old new (Some f) h = λ w e. passed_on w.stamp f (h w e)

    versions_on : (newer : S) (vs : List S) → Versions o jobs x top newer vs → Versions o more x top' newer vs
    versions_on newer [] h = tt
    versions_on newer (v ∷ vs) h = (passed_on v newer h.0, versions_on v vs h.1)

  pub passed_under : (jobs : List (AcceptedJob S R)) (x : ℕ) (top a b c : S) → Le o c b → Passed o jobs x top a b → Passed o jobs x top a c
  passed_under jobs x top a b c l p =
      record {
        reached = le_trans o laws c b top l p.reached;
        gap = λ w h. ⊎_elim inl (λ k. inr (le_trans o laws c b w.stamp l k)) (p.gap w h);
      }

  versions-take : (jobs : List (AcceptedJob S R)) (x : ℕ) (top newer : S) (n : ℕ) (vs : List S) → Versions o jobs x top newer vs → Versions o jobs x top newer (take n vs)
  versions-take jobs x top newer zero vs h = tt
  versions-take jobs x top newer (suc n) [] h = tt
  versions-take jobs x top newer (suc n) (v ∷ vs) h = (h.0, versions-take jobs x top v n vs h.1)

  -- what a noted stamp's place among the versions tells: nothing was written since, or nothing before what follows it
  pub record Located (jobs : List (AcceptedJob S R)) (x : ℕ) (top noted : S) (next : Option S) : Type 0 where
    pub latest : next ≡ None → Le o top noted
    pub followed : (n : S) → next ≡ Some n → Passed o jobs x top noted n

  module _ (jobs : List (AcceptedJob S R)) (x : ℕ) (top noted : S) where
    located_older : (newer : S) (vs : List S) → Versions o jobs x top newer vs → (next : Option S) → follows_in o noted newer vs ≡ Some next → Located jobs x top noted next
    located_older newer [] h next e = absurd (some_none (sym e))
    located_older newer (v ∷ vs) h next e = by (same o noted v) refl e (located_older v vs h.1 next)
      where
        by : (t : Bool) → same o noted v ≡ t → cond t (Some (Some newer)) (follows_in o noted v vs) ≡ Some next → (follows_in o noted v vs ≡ Some next → Located jobs x top noted next) → Located jobs x top noted next
        by true s e ih =
            record {
              latest = λ n. absurd (some_none (some_inj e ∙ n));
              followed = λ n q. subst (λ z. Passed o jobs x top noted z) (some_inj (some_inj e ∙ q))
                  (record { reached = h.0.reached; gap = λ u k. ⊎_elim (λ l. inl (le_trans o laws _ _ _ l (same_le o laws noted v s).1)) inr (h.0.gap u k) });
            }
        by false s e ih = ih e

    pub located : (vs : List S) → Versions o jobs x top top vs → (next : Option S) → cond (same o noted top) (Some None) (follows_in o noted top vs) ≡ Some next → Located jobs x top noted next
    located vs h next e = by (same o noted top) refl e
      where
        by : (t : Bool) → same o noted top ≡ t → cond t (Some None) (follows_in o noted top vs) ≡ Some next → Located jobs x top noted next
        by true s e = record { latest = λ n. (same_le o laws noted top s).1; followed = λ n q. absurd (some_none (sym (some_inj e ∙ q))) }
        by false s e = located_older top vs h next e

-- what a row keeps: what stands comes from the opening or a job, nothing was written later, and the versions and the
-- first write since the last image are as they are shown
pub record RowOk {S R : Type 0} (o : Order S) (values : List R) (jobs : List (AcceptedJob S R)) (x : ℕ) (was stood : Option (Stood S R)) (top : S) (older : List S) (first : Option S) : Type 0 where
  pub origin : (w : Stood S R) → stood ≡ Some w → Origin o values jobs x w
  pub tops : (w : Stood S R) → stood ≡ Some w → top ≡ w.stamp
  pub last : (w : Stood S R) → Wrote jobs x w → Le o w.stamp top
  pub versions : Versions o jobs x top top older
  pub since : Since o jobs x top was stood first

module _ {S R : Type 0} (o : Order S) (laws : Ordered o) (jobs : List (AcceptedJob S R)) (d : AcceptedJob S R) where
  wrote_push : (x : ℕ) (w : Stood S R) → Wrote (jobs ++ (d ∷ [])) x w → Wrote jobs x w ⊎ ((put_of x d.puts ≡ Some w.value) × (d.stamp ≡ w.stamp))
  wrote_push x w h =
      ⊎_elim (λ m. inl (record { job = h.job; member = m; puts = h.puts; stamps = h.stamps }))
      (λ e. inr (ap (λ (z : AcceptedJob S R). put_of x z.puts) (sym e) ∙ h.puts, ap (λ (z : AcceptedJob S R). z.stamp) (sym e) ∙ h.stamps))
      (in_push jobs d h.member)

  -- one job more, whose puts lie behind the last write
  pub grown_by : (x : ℕ) (top top' : S) → Le o top top' → ((v : R) → put_of x d.puts ≡ Some v → Le o top d.stamp) → Grown o jobs (jobs ++ (d ∷ [])) x top top'
  grown_by x top top' up above =
      record { up = up; new = λ w h. ⊎_elim inl (λ k. inr (subst (λ (z : S). Le o top z) k.1 (above w.value k.0))) (wrote_push x w h) }

  module _ (values : List R) (x : ℕ) (was stood : Option (Stood S R)) (top : S) (older : List S) (first : Option S) (ok : RowOk o values jobs x was stood top older first) where
    -- a row that the new job does not put
    pub row_left : put_of x d.puts ≡ None → RowOk o values (jobs ++ (d ∷ [])) x was stood top older first
    row_left e =
        let g = grown_by x top top (le_refl o laws top) (λ v f. absurd (some_none (sym f ∙ e))) in
        record {
          origin = λ w q. origin_in o values jobs (jobs ++ (d ∷ [])) x w (λ a m. in_left (d ∷ []) m) (ok.origin w q);
          tops = ok.tops;
          last = λ w h. ⊎_elim (ok.last w) (λ k. absurd (some_none (sym k.0 ∙ e))) (wrote_push x w h);
          versions = versions_on o laws g top older ok.versions;
          since = since_on o laws g was stood first ok.since;
        }

    -- a row that it puts
    module _ (v : R) (e : put_of x d.puts ≡ Some v) (l : Lt o top d.stamp) where
      newest : (w : Stood S R) → Wrote (jobs ++ (d ∷ [])) x w → Le o w.stamp top ⊎ Le o d.stamp w.stamp
      newest w h = ⊎_elim (λ k. inl (ok.last w k)) (λ k. inr (subst (λ (z : S). Le o d.stamp z) k.1 (le_refl o laws d.stamp))) (wrote_push x w h)

      g : Grown o jobs (jobs ++ (d ∷ [])) x top d.stamp
      g = grown_by x top d.stamp (lt_le o laws _ _ l) (λ u k. lt_le o laws _ _ l)

      first_since : (f : Option S) → f ≡ first → Since o (jobs ++ (d ∷ [])) x d.stamp was (Some (record { value = v; stamp = d.stamp })) (first_kept d.stamp f)
      first_since (Some f) h = λ w q. passed_on o laws g w.stamp f (subst (λ (z : Option S). Since o jobs x top was stood z) (sym h) ok.since w q)
      first_since None h = λ w q.
          let still : stood ≡ was = subst (λ (z : Option S). Since o jobs x top was stood z) (sym h) ok.since in
          let at_top : top ≡ w.stamp = ok.tops w (still ∙ q) in
          record { reached = le_refl o laws d.stamp; gap = λ u k. ⊎_elim (λ n. inl (subst (λ (z : S). Le o u.stamp z) at_top n)) inr (newest u k) }

      pub row_put : RowOk o values (jobs ++ (d ∷ [])) x was (Some (record { value = v; stamp = d.stamp })) d.stamp (take 3 (top ∷ older)) (first_kept d.stamp first)
      row_put =
          record {
            origin = λ w q. inr (record { job = d; member = in_last jobs d; puts = e ∙ value_of w q; stamps = stamp_of w q });
            tops = stamp_of;
            last = λ w h. ⊎_elim (λ k. le_trans o laws _ _ _ (ok.last w k) (lt_le o laws _ _ l)) (λ k. subst (λ (z : S). Le o z d.stamp) k.1 (le_refl o laws d.stamp)) (wrote_push x w h);
            versions = versions-take o laws (jobs ++ (d ∷ [])) x d.stamp d.stamp 3 (top ∷ older) (record { reached = le_refl o laws d.stamp; gap = newest }, versions_on o laws g top older ok.versions);
            since = first_since first refl;
          }
        where
          stamp_of : (w : Stood S R) → Some (record { value = v; stamp = d.stamp }) ≡ Some w → d.stamp ≡ w.stamp
          stamp_of w q = ap (λ (z : Stood S R). z.stamp) (some_inj q)

          value_of : (w : Stood S R) → Some (record { value = v; stamp = d.stamp }) ≡ Some w → Some v ≡ Some w.value
          value_of w q = ap (λ (z : Stood S R). Some z.value) (some_inj q)
