-- From what holds of the accepted jobs to the play, in every serial order.
use Rattle.std.proofs.Common.{◌≡◌, ℕ, ◌⊎◌, List, [], ◌∷◌, Some, None, Option, sym, refl, ap, ◌∙◌, subst, inl, inr, ⊎_elim}
use mathlib.Core.List.{Permᴰ}
use mathlib.Core.List.Permᴰ
use Rattle.std.specs.Option.{option_map}
use Rattle.std.specs.List.{slice_get}
use Rattle.kinds.specs.Stamps.{Order, Ordered}
use Rattle.model.specs.Rows.{Stood}
use Rattle.law.specs.Daybook.{Look, AcceptedJob}
use Rattle.law.specs.Account.{StandingAt, put_of, under, after_job, played, BorneOut, NeverFalls, SerialOrder, at_opening}
use Rattle.law.proofs.StampOrder.{some_none, some_inj, Lt, Le, not_both, le_refl}
use Rattle.law.proofs.Members.{In, in_none, in_cons, here, there, all_in, in_all, in_arranged, Pairs, pairs_arranged}

module _ {S R : Type 0} (o : Order S) where
  -- of two jobs: they do not put one record under one stamp, and a put of the second at a record that the first saw is
  -- not after what the first saw, or is after the first
  pub record Fair (a b : AcceptedJob S R) : Type 0 where
    pub apart : (x : ℕ) (u v : R) → put_of x a.puts ≡ Some u → put_of x b.puts ≡ Some v → Lt o a.stamp b.stamp ⊎ Lt o b.stamp a.stamp
    pub clear : (l : Look S R) → In l a.looks → (v : R) → put_of l.number b.puts ≡ Some v → Le o b.stamp l.saw.stamp ⊎ Lt o a.stamp b.stamp

  abbrev pub FairBoth : AcceptedJob S R → AcceptedJob S R → Type 0
  FairBoth a b = Fair a b × Fair b a

-- a job of the list wrote w at x
pub record Wrote {S R : Type 0} (jobs : List (AcceptedJob S R)) (x : ℕ) (w : Stood S R) : Type 0 where
  pub job : AcceptedJob S R
  pub member : In job jobs
  pub puts : put_of x job.puts ≡ Some w.value
  pub stamps : job.stamp ≡ w.stamp

module _ {S R : Type 0} (o : Order S) (values : List R) where
  -- w stood at x at the opening, or a job wrote it
  abbrev pub Origin : List (AcceptedJob S R) → ℕ → Stood S R → Type 0
  Origin jobs x w = (at_opening o values x ≡ Some w) ⊎ Wrote jobs x w

  pub opening_stamp : (x : ℕ) (w : Stood S R) → at_opening o values x ≡ Some w → w.stamp ≡ o.least
  opening_stamp x w e = by (slice_get values x) e
    where
      by : (p : Option R) → option_map (λ v. record { value = v; stamp = o.least }) p ≡ Some w → w.stamp ≡ o.least
      by None e = absurd (some_none (sym e))
      by (Some v) e = cc

  -- what the accepted jobs keep
  pub record Sound (jobs : List (AcceptedJob S R)) : Type 0 where
    pub pairs : Pairs (FairBoth o) jobs
    pub origin : (d : AcceptedJob S R) → In d jobs → (l : Look S R) → In l d.looks → Origin jobs l.number l.saw
    pub after : (d : AcceptedJob S R) → In d jobs → (l : Look S R) → In l d.looks → Lt o l.saw.stamp d.stamp
    pub risen : (d : AcceptedJob S R) → In d jobs → Lt o o.least d.stamp

  pub origin_in : (jobs others : List (AcceptedJob S R)) (x : ℕ) (w : Stood S R) → ((d : AcceptedJob S R) → In d jobs → In d others) → Origin jobs x w → Origin others x w
  origin_in jobs others x w f =
      ⊎_elim inl (λ h. inr (record { job = h.job; member = f h.job h.member; puts = h.puts; stamps = h.stamps }))

  sound_arranged : {jobs order : List (AcceptedJob S R)} → Permᴰ jobs order → Sound jobs → Sound order
  sound_arranged {jobs} {order} p s =
      record {
        pairs = pairs_arranged (FairBoth o) (λ a b h. (h.1, h.0)) p s.pairs;
        origin = λ d m l n. origin_in jobs order l.number l.saw (λ e k. in_arranged p k) (s.origin d (in_arranged (Permᴰ.symm p) m) l n);
        after = λ d m. s.after d (in_arranged (Permᴰ.symm p) m);
        risen = λ d m. s.risen d (in_arranged (Permᴰ.symm p) m);
      }

  -- what stands at x after the jobs of a list, the newest first
  abbrev standing : List (AcceptedJob S R) → StandingAt S R
  standing [] = at_opening o values
  standing (d ∷ ds) = after_job d (standing ds)

  abbrev Falling : List (AcceptedJob S R) → Type 0
  Falling [] = Unit {0}
  Falling (d ∷ ds) = ((e : AcceptedJob S R) → In e ds → Le o e.stamp d.stamp) × Falling ds

module _ {S R : Type 0} (o : Order S) (laws : Ordered o) (values : List R) where
  module _ (x : ℕ) (w : Stood S R) where
    -- the last writer's stamp is that of w, so w stands
    stands : (past : List (AcceptedJob S R)) → Pairs (FairBoth o) past → Falling o values past → ((d : AcceptedJob S R) → In d past → Lt o o.least d.stamp) → ((d : AcceptedJob S R) → In d past → (v : R) → put_of x d.puts ≡ Some v → Le o d.stamp w.stamp) → Origin o values past x w → standing o values past x ≡ Some w
    stands [] pairs falling risen low (inl e) = e
    stands [] pairs falling risen low (inr h) = in_none h.member
    stands (d ∷ ds) pairs falling risen low origin =
        by (put_of x d.puts) refl (stands ds pairs.1 falling.1 (λ e m. risen e (there m)) (λ e m. low e (there m)))
      where
        deeper : put_of x d.puts ≡ None → Origin o values ds x w
        deeper n =
            ⊎_elim inl
            (λ h. ⊎_elim (λ e. absurd (some_none (sym h.puts ∙ ap (λ (z : AcceptedJob S R). put_of x z.puts) e ∙ n)))
            (λ m. inr (record { job = h.job; member = m; puts = h.puts; stamps = h.stamps })) (in_cons h.member))
            origin

        none_later : (h : Wrote (d ∷ ds) x w) (u : R) → put_of x d.puts ≡ Some u → In h.job ds → ⊥
        none_later h u e m =
            let up : Le o h.job.stamp d.stamp = falling.0 h.job m in
            let down : Le o d.stamp h.job.stamp = subst (λ (z : S). Le o d.stamp z) (sym h.stamps) (low d here u e) in
            ⊎_elim (λ k. not_both o laws _ _ k up) (λ k. not_both o laws _ _ k down) ((pairs.0 h.job m).0.apart x u w.value e h.puts)

        -- no job is at the opening's stamp
        not_opening : (u : R) → put_of x d.puts ≡ Some u → at_opening o values x ≡ Some w → ⊥
        not_opening u e f = not_both o laws _ _ (risen d here) (subst (λ (z : S). Le o d.stamp z) (opening_stamp o values x w f) (low d here u e))

        by : (p : Option R) → put_of x d.puts ≡ p → (Origin o values ds x w → standing o values ds x ≡ Some w) → under d.stamp p (standing o values ds x) ≡ Some w
        by None e ih = ih (deeper e)
        by (Some u) e ih =
            ⊎_elim (λ f. absurd (not_opening u e f))
            (λ h. ⊎_elim
            (λ f. let v : u ≡ w.value = some_inj (sym e ∙ ap (λ (z : AcceptedJob S R). put_of x z.puts) (sym f) ∙ h.puts) in
            let s : d.stamp ≡ w.stamp = ap (λ (z : AcceptedJob S R). z.stamp) (sym f) ∙ h.stamps in
            λ i. Some (record { value = v i; stamp = s i }))
            (λ m. absurd (none_later h u e m)) (in_cons h.member))
            origin

  -- an order cut in two: the jobs already played, newest first, and the rest
  record Cut (all past rest : List (AcceptedJob S R)) : Type 0 where
    split : (d : AcceptedJob S R) → In d all → In d past ⊎ In d rest
    back : (d : AcceptedJob S R) → In d past → In d all
    fore : (d : AcceptedJob S R) → In d rest → In d all
    pairs : Pairs (FairBoth o) past
    ahead : Pairs (FairBoth o) rest
    cross : (d e : AcceptedJob S R) → In d rest → In e past → FairBoth o d e
    falling : Falling o values past
    rising : NeverFalls o rest
    over : (d e : AcceptedJob S R) → In d rest → In e past → Le o e.stamp d.stamp

  cut_on : (all past : List (AcceptedJob S R)) (d : AcceptedJob S R) (ds : List (AcceptedJob S R)) → Cut all past (d ∷ ds) → Cut all (d ∷ past) ds
  cut_on all past d ds c =
      record {
        split = λ e m. ⊎_elim (λ k. inl (there k)) (λ k. ⊎_elim (λ f. inl (subst (λ (z : AcceptedJob S R). In z (d ∷ past)) (sym f) here)) inr (in_cons k)) (c.split e m);
        back = λ e m. ⊎_elim (λ f. subst (λ (z : AcceptedJob S R). In z all) (sym f) (c.fore d here)) (c.back e) (in_cons m);
        fore = λ e m. c.fore e (there m);
        pairs = (λ e m. c.cross d e here m, c.pairs);
        ahead = c.ahead.1;
        cross = λ a b m n. ⊎_elim (λ f. subst (λ (z : AcceptedJob S R). FairBoth o a z) (sym f) (let h = c.ahead.0 a m in (h.1, h.0))) (λ k. c.cross a b (there m) k) (in_cons n);
        falling = (λ e m. c.over d e here m, c.falling);
        rising = c.rising.1;
        over = λ a b m n. ⊎_elim (λ f. subst (λ (z : AcceptedJob S R). Le o z.stamp a.stamp) (sym f) (all_in (λ (e : AcceptedJob S R). Le o d.stamp e.stamp) m c.rising.0)) (λ k. c.over a b (there m) k) (in_cons n);
      }

  cut_start : (all : List (AcceptedJob S R)) → Sound o values all → NeverFalls o all → Cut all [] all
  cut_start all s rising =
      record {
        split = λ d m. inr m;
        back = λ d m. in_none m;
        fore = λ d m. m;
        pairs = tt;
        ahead = s.pairs;
        cross = λ d e m n. in_none n;
        falling = tt;
        rising = rising;
        over = λ d e m n. in_none n;
      }

  module _ (all : List (AcceptedJob S R)) (sound : Sound o values all) where
    module _ (past : List (AcceptedJob S R)) (d : AcceptedJob S R) (ds : List (AcceptedJob S R)) (c : Cut all past (d ∷ ds)) (l : Look S R) (m : In l d.looks) where
      before_d : (h : Wrote all l.number l.saw) → Lt o h.job.stamp d.stamp
      before_d h = subst (λ (z : S). Lt o z d.stamp) (sym h.stamps) (sound.after d (c.fore d here) l m)

      earlier : (h : Wrote all l.number l.saw) → In h.job past
      earlier h =
          ⊎_elim (λ k. k)
          (λ k. absurd (⊎_elim
          (λ f. not_both o laws _ _ (before_d h) (subst (λ (z : AcceptedJob S R). Le o d.stamp z.stamp) (sym f) (le_refl o laws d.stamp)))
          (λ n. not_both o laws _ _ (before_d h) (all_in (λ (e : AcceptedJob S R). Le o d.stamp e.stamp) n c.rising.0)) (in_cons k)))
          (c.split h.job h.member)

      look_stands : standing o values past l.number ≡ Some l.saw
      look_stands =
          stands l.number l.saw past c.pairs c.falling (λ e n. sound.risen e (c.back e n))
          (λ e n v q. ⊎_elim (λ k. k) (λ k. absurd (not_both o laws _ _ k (c.over d e here n))) ((c.cross d e here n).0.clear l m v q))
          (⊎_elim inl (λ h. inr (record { job = h.job; member = earlier h; puts = h.puts; stamps = h.stamps })) (sound.origin d (c.fore d here) l m))

    borne_from : (past rest : List (AcceptedJob S R)) → Cut all past rest → BorneOut (standing o values past) rest
    borne_from past [] c = tt
    borne_from past (d ∷ ds) c =
        (in_all (λ (l : Look S R). standing o values past l.number ≡ Some l.saw) d.looks (λ l m. look_stands past d ds c l m), borne_from (d ∷ past) ds (cut_on all past d ds c))

    ends_from : (x : ℕ) (w : Stood S R) → ((d : AcceptedJob S R) → In d all → (v : R) → put_of x d.puts ≡ Some v → Le o d.stamp w.stamp) → Origin o values all x w → (past rest : List (AcceptedJob S R)) → Cut all past rest → played (standing o values past) rest x ≡ Some w
    ends_from x w low origin past [] c =
        stands x w past c.pairs c.falling (λ e n. sound.risen e (c.back e n)) (λ e n. low e (c.back e n))
        (origin_in o values all past x w (λ e n. ⊎_elim (λ k. k) (λ k. in_none k) (c.split e n)) origin)
    ends_from x w low origin past (d ∷ ds) c = ends_from x w low origin (d ∷ past) ds (cut_on all past d ds c)

  -- every look of every serial order is borne out
  pub borne_out : (accepted order : List (AcceptedJob S R)) → Sound o values accepted → SerialOrder o accepted order → BorneOut (at_opening o values) order
  borne_out accepted order s r = let t = sound_arranged o values r.same_jobs s in borne_from order t [] order (cut_start order t r.never_falls)

  -- what the last writer left stands at the end
  pub ends_at : (accepted order : List (AcceptedJob S R)) → Sound o values accepted → SerialOrder o accepted order → (x : ℕ) (w : Stood S R) → ((d : AcceptedJob S R) → In d accepted → (v : R) → put_of x d.puts ≡ Some v → Le o d.stamp w.stamp) → Origin o values accepted x w → played (at_opening o values) order x ≡ Some w
  ends_at accepted order s r x w low origin =
      let t = sound_arranged o values r.same_jobs s in
      ends_from order t x w (λ d m. low d (in_arranged (Permᴰ.symm r.same_jobs) m)) (origin_in o values accepted order x w (λ e k. in_arranged r.same_jobs k) origin)
      [] order (cut_start order t r.never_falls)

-- a record that no job puts stays as it was
pub untouched : {S R : Type 0} (order : List (AcceptedJob S R)) (x : ℕ) → ((d : AcceptedJob S R) → In d order → put_of x d.puts ≡ None) → (standing : StandingAt S R) → played standing order x ≡ standing x
untouched [] x h standing = refl
untouched (d ∷ ds) x h standing =
    untouched ds x (λ e m. h e (there m)) (after_job d standing) ∙ ap (λ p. under d.stamp p (standing x)) (h d here)
