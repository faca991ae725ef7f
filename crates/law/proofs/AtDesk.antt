-- Open, look, put and tune keep what every run keeps.
use Rattle.std.proofs.Common.{◌≡◌, ℕ, zero, suc, ◌+◌, ◌≤◌, Bool, true, false, cond, ◌&&◌, List, [], length, Some, None, Ok, Err, Option, Result, sym, refl, ap, ◌∙◌, subst, inl, arith}
use Rattle.std.specs.Option.{option_map}
use Rattle.std.specs.List.{slice_get}
use Rattle.std.proofs.lemmas.Bool.{eqb-true, and_parts}
use Rattle.kinds.specs.Stamps.{Kind, Lawful}
use Rattle.model.specs.declared.entry.Entry.{Entry}
use Rattle.station.specs.declared.job.Standing.TheVariants.{Live}
use Rattle.model.specs.declared.refusal.Refusal.{Refusal}
use Rattle.model.specs.declared.refusal.Refusal.TheVariants.{WrongTables}
use Rattle.model.specs.Rows.{Stood}
use Rattle.model.specs.Tables.{sized}
use Rattle.station.specs.Station.{Image, image_sized, Work, Acted, Station, work_of, put_back, carried_out, open_refused, opened_unless, open_job, look_work, look_job, put_work, put_job, tune_work, tune_job, first_write}
use Rattle.law.specs.Daybook.{Daybook, Line, with_leaf, has_line, line_looked, line_put}
use Rattle.law.specs.Runs.{Desk, done, shown, stands, image_numbered, with_job, given, after_open, answer_of, after_call, is_done, shown_of, write_in, write_given, noted}
use Rattle.law.proofs.StampOrder.{some_none, some_inj}
use Rattle.law.proofs.Views.{leaf}
use Rattle.law.proofs.Stations.{unaltered}
use Rattle.law.proofs.History.{Since}
use Rattle.law.proofs.Jobs.{row_stood}
use Rattle.law.proofs.AtStations.{Kept, LookKept, look_kept, PutKept, put_kept, TuneKept, tune_kept}
use Rattle.law.proofs.Acceptance.{top_at}
use Rattle.std.proofs.lemmas.Option.{slice_get_within}
use Rattle.law.proofs.Invariant.{shown_by, shown_in, StationOk, Inv, reseat, leaf_here, leaf_there, Back, back}

module _ {S R : Type 0} (k : Kind S) (laws : Lawful k) (values : List R) (d : Desk S R) (b : Daybook S R) (h : Inv k values d b) where
  abbrev SeatOk : Station S R → Type 0
  SeatOk t = StationOk k values b.accepted (top_at k.order d.registry.rows) d.images (length d.images) t

  -- a job at a place, with its leaf as it was or written anew
  same_leaf : (j : ℕ) (t t' : Station S R) → d.jobs j ≡ Some t → SeatOk t' → leaf (work_of t').entries ≡ leaf (work_of t).entries → Inv k values (with_job d j (Some t')) b
  same_leaf j t t' e ok l =
      reseat k values d b h j (Some t') b.leaves (λ u q. subst (λ (z : Station S R). SeatOk z) (some_inj q) ok)
      (λ u q. h.job_leaf j t e ∙ sym l ∙ ap (λ (z : Station S R). leaf (work_of z).entries) (some_inj q)) (λ n q. refl)

  new_leaf : (j : ℕ) (t : Station S R) (l : List (Line S R)) → SeatOk t → l ≡ leaf (work_of t).entries → Inv k values (with_job d j (Some t)) (with_leaf b j l)
  new_leaf j t l ok e =
      reseat k values d b h j (Some t) (with_leaf b j l).leaves (λ u q. subst (λ (z : Station S R). SeatOk z) (some_inj q) ok)
      (λ u q. leaf_here b.leaves j l ∙ e ∙ ap (λ (z : Station S R). leaf (work_of z).entries) (some_inj q)) (leaf_there b.leaves j l)

  as_it_was : (j : ℕ) (t : Station S R) → d.jobs j ≡ Some t → Inv k values (with_job d j (Some t)) b
  as_it_was j t e = same_leaf j t t e (h.job_ok j t e) refl

  -- an image that was published
  record Given (n : ℕ) (i : Image S R) : Type 0 where
    numbered : i.number ≡ n
    within : n ≤ length d.images
    rows : length i.rows ≡ length values
    shows : (x : ℕ) → shown_in k.order values d.images n x ≡ option_map row_stood (slice_get i.rows x)
    since : (m : ℕ) → n ≡ m + 1 → (x : ℕ) → Since k.order b.accepted x (top_at k.order d.registry.rows x) (shown_in k.order values d.images m x) (shown_in k.order values d.images n x) (first_write i x)

  published : (n : ℕ) (i : Image S R) → image_numbered d.images n ≡ Some i → Given n i
  published zero i e = absurd (some_none (sym e))
  published (suc n) i e =
      let ok = h.images_ok n i e in
      let l = slice_get_within d.images n i e in
      record {
        numbered = ok.numbered;
        within = omega arith;
        rows = ok.rows;
        shows = shows;
        since = λ m q x.
            let same : n ≡ m = omega arith in
            subst (λ (z : ℕ). Since k.order b.accepted x (top_at k.order d.registry.rows x) (shown_in k.order values d.images z x) (shown_in k.order values d.images (suc n) x) (first_write i x)) same
            (subst (λ (z : Option (Stood S R)). Since k.order b.accepted x (top_at k.order d.registry.rows x) (shown_in k.order values d.images n x) z (first_write i x)) (sym (shows x)) (h.image_since n i e x));
      }
    where
      shows : (x : ℕ) → shown_in k.order values d.images (suc n) x ≡ option_map row_stood (slice_get i.rows x)
      shows x = ap (λ (z : Option (Image S R)). shown_by k.order values z x) e

  -- open
  pub open_inv : (j n : ℕ) (sheet : List (Entry S R)) (p : Option (Image S R)) → image_numbered d.images n ≡ p → let m = given p d (λ i. after_open d j sheet (open_job k i)) in Inv k values m.desk (cond (is_done m.answer) (with_leaf b j []) b)
  open_inv j n sheet None e = h
  open_inv j n sheet (Some i) e = by (open_refused k i)
    where
      g : Given n i
      g = published n i e

      by : (r : Option Refusal) → let m = after_open d j sheet (opened_unless k r i) in Inv k values m.desk (cond (is_done m.answer) (with_leaf b j []) b)
      by (Some r) = h
      by None =
          new_leaf j (record { job = record { image = i.number; lower = k.order.least; upper = None; standing = Live; count = 0 }; sheet = sheet }) []
          (record { count = omega arith; good = record { stands = let a = g.numbered in let w = g.within in omega arith; entries = tt; distinct = tt; inside = tt; few = omega arith; place = inl (refl, refl, refl) } })
          refl

  -- a call at a station, by whether its tables have their lengths
  sheet_sized : (t : Station S R) (i : Image S R) → (image_sized i && sized t.sheet 16) ≡ true → length t.sheet ≡ 16
  sheet_sized t i e = eqb-true (length t.sheet) 16 (and_parts (image_sized i) (sized t.sheet 16) e).1

  abbrev KeptBy : {A : Type 0} → Station S R → Acted S R A → Type 0
  KeptBy t a = Kept k laws values b.accepted (top_at k.order d.registry.rows) (shown_in k.order values d.images) (length d.images) (work_of t) a

  back_of : {A : Type 0} (t : Station S R) (a : Acted S R A) → length t.sheet ≡ 16 → SeatOk t → KeptBy t a → Back k laws values b.accepted (top_at k.order d.registry.rows) d.images (length d.images) t a.work
  back_of t a n s q = back k laws values b.accepted (top_at k.order d.registry.rows) d.images (length d.images) t a n s q

  -- a refused call at a station leaves it as it was
  refused_inv : {A : Type 0} (j : ℕ) (t : Station S R) (a : Acted S R A) (r : Refusal) → d.jobs j ≡ Some t → KeptBy t a → a.answer ≡ Err r → Inv k values (with_job d j (Some (put_back t a.work))) b
  refused_inv j t a r e q s =
      subst (λ (z : Station S R). Inv k values (with_job d j (Some z)) b) (sym (ap (put_back t) (q.unaltered r s) ∙ unaltered t)) (as_it_was j t e)

  module _ (j n : ℕ) (i : Image S R) (t : Station S R) (e : image_numbered d.images n ≡ Some i) (q : d.jobs j ≡ Some t) where
    g : Given n i
    g = published n i e

    -- the image as the calls at a station take it
    given_shows : (x : ℕ) → shown_in k.order values d.images i.number x ≡ option_map row_stood (slice_get i.rows x)
    given_shows x = ap (λ m. shown_in k.order values d.images m x) g.numbered ∙ g.shows x

    -- look
    pub look_inv : (x : ℕ) → let m = after_call d j shown (look_job k t i x) in Inv k values m.desk (noted (shown_of m.answer) (write_given (image_numbered d.images n) x) j x b)
    look_inv x = by (image_sized i && sized t.sheet 16) refl
      where
        kept : LookKept k laws values b.accepted (top_at k.order d.registry.rows) (shown_in k.order values d.images) (length d.images) (work_of t) i (h.job_ok j t q).good g.rows given_shows h.image_origin x (look_work k (work_of t) i x)
        kept = look_kept k laws values b.accepted (top_at k.order d.registry.rows) (shown_in k.order values d.images) (length d.images) (work_of t) i (h.job_ok j t q).good g.rows given_shows h.image_origin x

        answered : length t.sheet ≡ 16 → (r : Result R Refusal) → (look_work k (work_of t) i x).answer ≡ r → Inv k values (with_job d j (Some (put_back t (look_work k (work_of t) i x).work))) (noted (shown_of (answer_of {S = S} {R = R} shown r)) (write_given (image_numbered d.images n) x) j x b)
        answered z (Err r) s = refused_inv j t (look_work k (work_of t) i x) r q kept.kept s
        answered z (Ok v) s =
            let l = kept.line v s in
            let c = back_of t (look_work k (work_of t) i x) z (h.job_ok j t q) kept.kept in
            subst (λ (y : Option S). Inv k values (with_job d j (Some (put_back t (look_work k (work_of t) i x).work))) (noted (Some v) y j x b)) (sym (ap (λ (y : Option (Image S R)). write_given y x) e ∙ ap write_in l.1))
            (new_leaf j (put_back t (look_work k (work_of t) i x).work) _ c.ok
            (ap (λ ls. line_looked (has_line x ls) x (record { value = v; stamp = l.0.write }) ls) (h.job_leaf j t q) ∙ l.2 ∙ sym (ap (λ (y : Work S R). leaf y.entries) c.works)))

        by : (c : Bool) → (image_sized i && sized t.sheet 16) ≡ c → let m = after_call d j shown (cond c (carried_out t (look_work k (work_of t) i x)) (record { answer = Err WrongTables; station = t })) in Inv k values m.desk (noted (shown_of m.answer) (write_given (image_numbered d.images n) x) j x b)
        by true c = answered (sheet_sized t i c) (look_work k (work_of t) i x).answer refl
        by false c = as_it_was j t q

    -- put
    pub put_inv : (x : ℕ) (v : R) → let m = after_call d j (λ u. done) (put_job k t i x v) in Inv k values m.desk (cond (is_done m.answer) (with_leaf b j (line_put x v (b.leaves j))) b)
    put_inv x v = by (image_sized i && sized t.sheet 16) refl
      where
        kept : PutKept k laws values b.accepted (top_at k.order d.registry.rows) (shown_in k.order values d.images) (length d.images) (work_of t) i (h.job_ok j t q).good g.rows given_shows h.image_origin x v (put_work k (work_of t) i x v)
        kept = put_kept k laws values b.accepted (top_at k.order d.registry.rows) (shown_in k.order values d.images) (length d.images) (work_of t) i (h.job_ok j t q).good g.rows given_shows h.image_origin x v

        answered : length t.sheet ≡ 16 → (r : Result (Unit {0}) Refusal) → (put_work k (work_of t) i x v).answer ≡ r → Inv k values (with_job d j (Some (put_back t (put_work k (work_of t) i x v).work))) (cond (is_done (answer_of {S = S} {R = R} (λ u. done) r)) (with_leaf b j (line_put x v (b.leaves j))) b)
        answered z (Err r) s = refused_inv j t (put_work k (work_of t) i x v) r q kept.kept s
        answered z (Ok u) s =
            let c = back_of t (put_work k (work_of t) i x v) z (h.job_ok j t q) kept.kept in
            new_leaf j (put_back t (put_work k (work_of t) i x v).work) _ c.ok
            (ap (line_put x v) (h.job_leaf j t q) ∙ kept.line u s ∙ sym (ap (λ (y : Work S R). leaf y.entries) c.works))

        by : (c : Bool) → (image_sized i && sized t.sheet 16) ≡ c → let m = after_call d j (λ u. done) (cond c (carried_out t (put_work k (work_of t) i x v)) (record { answer = Err WrongTables; station = t })) in Inv k values m.desk (cond (is_done m.answer) (with_leaf b j (line_put x v (b.leaves j))) b)
        by true c = answered (sheet_sized t i c) (put_work k (work_of t) i x v).answer refl
        by false c = as_it_was j t q

    -- tune
    pub tune_inv : Inv k values (after_call d j stands (tune_job k t i)).desk b
    tune_inv = by (image_sized i && sized t.sheet 16) refl
      where
        since : i.number ≡ (work_of t).image + 1 → (x : ℕ) → Since k.order b.accepted x (top_at k.order d.registry.rows x) (shown_in k.order values d.images (work_of t).image x) (shown_in k.order values d.images i.number x) (first_write i x)
        since c x =
            subst (λ (z : ℕ). Since k.order b.accepted x (top_at k.order d.registry.rows x) (shown_in k.order values d.images (work_of t).image x) (shown_in k.order values d.images z x) (first_write i x)) (sym g.numbered)
            (g.since (work_of t).image (sym g.numbered ∙ c) x)

        within : i.number ≤ length d.images
        within = let a = g.numbered in let w = g.within in omega arith

        kept : TuneKept k laws values b.accepted (top_at k.order d.registry.rows) (shown_in k.order values d.images) (length d.images) (work_of t) i (h.job_ok j t q).good within since (tune_work k (work_of t) i)
        kept = tune_kept k laws values b.accepted (top_at k.order d.registry.rows) (shown_in k.order values d.images) (length d.images) (work_of t) i (h.job_ok j t q).good within since

        by : (c : Bool) → (image_sized i && sized t.sheet 16) ≡ c → Inv k values (after_call d j stands (cond c (carried_out t (tune_work k (work_of t) i)) (record { answer = Err WrongTables; station = t }))).desk b
        by true c =
            let a = back_of t (tune_work k (work_of t) i) (sheet_sized t i c) (h.job_ok j t q) kept.kept in
            same_leaf j t (put_back t (tune_work k (work_of t) i).work) q a.ok (ap (λ (y : Work S R). leaf y.entries) a.works ∙ kept.line)
        by false c = as_it_was j t q
