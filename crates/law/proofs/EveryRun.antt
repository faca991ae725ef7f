-- After every run the stamp order accounts for all that was accepted.
use Rattle.std.proofs.Common.{◌≡◌, ℕ, zero, suc, ◌≤◌, Bool, true, false, cond, not, List, [], ◌∷◌, length, replicate, Some, None, Ok, Option, sym, refl, ap, ◌∙◌, subst, inl, arith}
use mathlib.Core.List.Permᴰ
use Rattle.std.specs.Option.{option_map}
use Rattle.std.specs.List.{slice_get}
use Rattle.kinds.specs.Stamps.{Order, Kind, Lawful}
use Rattle.model.specs.declared.row.Row.{Row}
use Rattle.model.specs.declared.refusal.Refusal.TheVariants.{WrongTables}
use Rattle.model.specs.Refusals.{refused_if}
use Rattle.model.specs.Rows.{Stood, stood, older}
use Rattle.station.specs.Station.{Image, Station, look_job, put_job, tune_job}
use Rattle.registrar.specs.Registry.{Registry, Settled, tables_sized, unless, found, founded, founded_rows, submit}
use Rattle.law.specs.Daybook.{Daybook, AcceptedJob, with_leaf, line_put}
use Rattle.law.specs.Account.{put_of, at_opening, played, SerialOrder, Accounted, StampOrderAccounts}
use Rattle.law.specs.Runs.{Call, opens, looks, puts, tunes, submits, decides, publishes, Desk, image_numbered, given, standing_at, after_call, after_submit, shown, done, stands, is_done, shown_of, ticket_of, write_given, noted, laid_if, Run, next, run, start}
use Rattle.law.proofs.StampOrder.{some_none, some_inj, Le, not_both}
use Rattle.law.proofs.Members.{In, in_none, in_arranged}
use Rattle.law.proofs.Sizes.{tables, sizes, sized_founded}
use Rattle.std.proofs.lemmas.Option.{slice_get_within}
use Rattle.law.proofs.RowLaws.{nth_some, founded_from, founded_stands}
use Rattle.law.proofs.Plays.{borne_out, ends_at, untouched}
use Rattle.law.proofs.History.{Since, Versions, RowOk}
use Rattle.law.proofs.AtStations.{not_ok}
use Rattle.law.proofs.Acceptance.{top_in, older_in, top_at, older_at, stood_at, first_at}
use Rattle.law.proofs.Invariant.{shown_in, Inv}
use Rattle.law.proofs.AtDesk.{open_inv, look_inv, put_inv, tune_inv}
use Rattle.law.proofs.AtRegistrar.{submit_inv, decide_inv}
use Rattle.law.proofs.AtBroadcast.{none_first, publish_inv}

-- each call keeps what every run keeps
module _ {S R : Type 0} (k : Kind S) (laws : Lawful k) (values : List R) (d : Desk S R) (b : Daybook S R) (h : Inv k values d b) where
  look_step : (j n x : ℕ) (p : Option (Image S R)) → image_numbered d.images n ≡ p → (q : Option (Station S R)) → d.jobs j ≡ q → let m = given p d (λ i. standing_at q d (λ t. after_call d j shown (look_job k t i x))) in Inv k values m.desk (noted (shown_of m.answer) (write_given p x) j x b)
  look_step j n x None e q f = h
  look_step j n x (Some i) e None f = h
  look_step j n x (Some i) e (Some t) f = subst (λ (z : Option (Image S R)). let m = after_call d j shown (look_job k t i x) in Inv k values m.desk (noted (shown_of m.answer) (write_given z x) j x b)) e (look_inv k laws values d b h j n i t e f x)

  put_step : (j n x : ℕ) (v : R) (p : Option (Image S R)) → image_numbered d.images n ≡ p → (q : Option (Station S R)) → d.jobs j ≡ q → let m = given p d (λ i. standing_at q d (λ t. after_call d j (λ u. done) (put_job k t i x v))) in Inv k values m.desk (cond (is_done m.answer) (with_leaf b j (line_put x v (b.leaves j))) b)
  put_step j n x v None e q f = h
  put_step j n x v (Some i) e None f = h
  put_step j n x v (Some i) e (Some t) f = put_inv k laws values d b h j n i t e f x v

  tune_step : (j n : ℕ) (p : Option (Image S R)) → image_numbered d.images n ≡ p → (q : Option (Station S R)) → d.jobs j ≡ q → Inv k values (given p d (λ i. standing_at q d (λ t. after_call d j stands (tune_job k t i)))).desk b
  tune_step j n None e q f = h
  tune_step j n (Some i) e None f = h
  tune_step j n (Some i) e (Some t) f = tune_inv k laws values d b h j n i t e f

  submit_step : (j : ℕ) (q : Option (Station S R)) → d.jobs j ≡ q → let m = standing_at q d (λ t. let s = submit d.registry t in after_submit d j s s.answer) in Inv k values m.desk (laid_if (ticket_of m.answer) j b)
  submit_step j None f = h
  submit_step j (Some t) f = submit_inv k laws values d b h j t f

module _ {S R : Type 0} (k : Kind S) (laws : Lawful k) (values : List R) where
  pub next_inv : (r : Run S R) (c : Call S R) → Inv k values r.desk r.book → Inv k values (next k r c).desk (next k r c).book
  next_inv r (opens j n sheet) h = open_inv k laws values r.desk r.book h j n sheet (image_numbered r.desk.images n) refl
  next_inv r (looks j n x) h = look_step k laws values r.desk r.book h j n x (image_numbered r.desk.images n) refl (r.desk.jobs j) refl
  next_inv r (puts j n x v) h = put_step k laws values r.desk r.book h j n x v (image_numbered r.desk.images n) refl (r.desk.jobs j) refl
  next_inv r (tunes j n) h = tune_step k laws values r.desk r.book h j n (image_numbered r.desk.images n) refl (r.desk.jobs j) refl
  next_inv r (submits j) h = submit_step k laws values r.desk r.book h j (r.desk.jobs j) refl
  next_inv r decides h = decide_inv k laws values r.desk r.book h
  next_inv r (publishes i) h = publish_inv k laws values r.desk r.book h i

  pub run_inv : (calls : List (Call S R)) (r : Run S R) → Inv k values r.desk r.book → Inv k values (run k calls r).desk (run k calls r).book
  run_inv [] r h = h
  run_inv (c ∷ cs) r h = run_inv cs (next k r c) (next_inv r c h)

right : {S R : Type 0} (t : Bool) (a : Settled S R (Unit {0})) (g : Registry S R) → (unless (refused_if (not t) WrongTables None) g a).answer ≡ Ok tt → t ≡ true
right true a g e = refl
right false a g e = not_ok e

-- a founding that is not refused had tables of the right lengths
found_sized : {S R : Type 0} (o : Order S) (values : List R) (g : Registry S R) → (found o values g).answer ≡ Ok tt → tables_sized (length values) g ≡ true
found_sized o values g e = right (tables_sized (length values) g) (record { answer = Ok tt; registry = founded o values g }) g e

module _ {S R : Type 0} (k : Kind S) (laws : Lawful k) (values : List R) (brought : Registry S R) (e : (found k.order values brought).answer ≡ Ok tt) where
  rows_level : length values ≡ length brought.rows
  rows_level = sym (tables (length values) brought (found_sized k.order values brought e)).rows

  -- a row just founded
  founded_top : (x : ℕ) (r : Option (Row S R)) (w : Stood S R) → option_map stood r ≡ Some w → top_in k.order r ≡ w.stamp
  founded_top x None w q = absurd (some_none (sym q))
  founded_top x (Some r) w q = ap (λ (z : Stood S R). z.stamp) (some_inj q)

  founded_versions : (x : ℕ) (top : S) (r : Option (Row S R)) → slice_get (founded_rows k.order values brought.rows) x ≡ r → Versions {R = R} k.order [] x top top (older_in r)
  founded_versions x top None q = tt
  founded_versions x top (Some r) q =
      let f = founded_from k.order values brought.rows x r q in
      subst (λ (z : Row S R). Versions {R = R} k.order [] x top top (older z)) (sym f.is) tt

  pub founded_inv : Inv k values (start k values brought).desk (start k values brought).book
  founded_inv =
      record {
        sized = sized_founded k.order values brought (found_sized k.order values brought e);
        records = refl;
        opening = refl;
        cycle = refl;
        images_ok = λ n i q. absurd (some_none (sym q));
        sound = record { pairs = tt; origin = λ d m. in_none m; after = λ d m. in_none m; risen = λ d m. in_none m };
        rows_ok = record { row = row_founded; reads = λ d m. in_none m };
        image_origin = λ n l x w q. inl (opening_shown n l x w q);
        image_since = λ n i q x. absurd (some_none (sym q));
        job_ok = λ j t q. absurd (some_none (sym q));
        job_leaf = λ j t q. absurd (some_none (sym q));
        queue_ok = λ w m. in_none m;
        waiting = refl;
        journal = record { serial = record { same_jobs = Permᴰ.nil; never_falls = tt }; in_turn = λ s. refl };
        placed = tt;
      }
    where
      rows : List (Row S R)
      rows = founded_rows k.order values brought.rows

      opening_shown : (n : ℕ) → n ≤ 0 → (x : ℕ) (w : Stood S R) → shown_in k.order values [] n x ≡ Some w → at_opening k.order values x ≡ Some w
      opening_shown zero l x w q = q
      opening_shown (suc n) l x w q = absurd (some_none (sym q))

      row_founded : (x : ℕ) → RowOk k.order values [] x (at_opening k.order values x) (stood_at (founded_rows k.order values brought.rows) x) (top_at k.order (founded_rows k.order values brought.rows) x) (older_at (founded_rows k.order values brought.rows) x) (first_at (replicate (length values) None) x)
      row_founded x =
          let stands = founded_stands k.order values brought.rows x rows_level in
          record {
            origin = λ w q. inl (sym stands ∙ q);
            tops = λ w q. founded_top x (slice_get (founded_rows k.order values brought.rows) x) w q;
            last = λ w m. in_none m.member;
            versions = founded_versions x (top_at k.order (founded_rows k.order values brought.rows) x) (slice_get (founded_rows k.order values brought.rows) x) refl;
            since = subst (λ (f : Option S). Since k.order [] x (top_at k.order (founded_rows k.order values brought.rows) x) (at_opening k.order values x) (stood_at (founded_rows k.order values brought.rows) x) f) (sym (none_first (length values) x)) stands;
          }

-- what every run keeps gives the law
module _ {S R : Type 0} (k : Kind S) (laws : Lawful k) (values : List R) (d : Desk S R) (b : Daybook S R) (h : Inv k values d b) where
  opening_none : (x : ℕ) → slice_get d.registry.rows x ≡ None → at_opening k.order values x ≡ None
  opening_none x e = ap (option_map (λ v. record { value = v; stamp = k.order.least })) (by (slice_get values x) refl)
    where
      by : (p : Option R) → slice_get values x ≡ p → p ≡ None
      by None q = refl
      by (Some v) q =
          let l = slice_get_within values x v q in
          let z = (sizes d.registry h.sized).rows in
          let n = h.records in
          absurd (some_none (sym (nth_some d.registry.rows x (omega arith)).1 ∙ e))

  -- where the register has no record, no job puts
  no_put_past : (x : ℕ) → slice_get d.registry.rows x ≡ None → (a : AcceptedJob S R) → In a b.accepted → put_of x a.puts ≡ None
  no_put_past x e a m = by (put_of x a.puts) refl
    where
      by : (p : Option R) → put_of x a.puts ≡ p → p ≡ None
      by None q = refl
      by (Some v) q =
          absurd (not_both k.order laws.ordered k.order.least a.stamp (h.sound.risen a m)
          (subst (λ (z : Option (Row S R)). Le k.order a.stamp (top_in k.order z)) e
          ((h.rows_ok.row x).last (record { value = v; stamp = a.stamp }) (record { job = a; member = m; puts = q; stamps = refl }))))

  ends : (order : List (AcceptedJob S R)) → SerialOrder k.order b.accepted order → (x : ℕ) → played (at_opening k.order values) order x ≡ option_map stood (slice_get d.registry.rows x)
  ends order r x = by (slice_get d.registry.rows x) refl
    where
      by : (p : Option (Row S R)) → slice_get d.registry.rows x ≡ p → played (at_opening k.order values) order x ≡ option_map stood p
      by None e =
          untouched order x (λ a m. no_put_past x e a (in_arranged (Permᴰ.symm r.same_jobs) m)) (at_opening k.order values) ∙ opening_none x e
      by (Some t) e =
          ends_at k.order laws.ordered values b.accepted order h.sound r x (stood t)
          (λ a m v q. subst (λ (z : Option (Row S R)). Le k.order a.stamp (top_in k.order z)) e ((h.rows_ok.row x).last (record { value = v; stamp = a.stamp }) (record { job = a; member = m; puts = q; stamps = refl })))
          ((h.rows_ok.row x).origin (stood t) (ap (option_map stood) e))

  pub accounted : Accounted k.order values d.registry b
  accounted =
      record {
        borne_out = λ order r. borne_out k.order laws.ordered values b.accepted order h.sound r;
        ends = ends;
        journal = h.journal;
        opening = h.opening;
      }

pub accounts : {S : Type 0} (k : Kind S) → Lawful k → (R : Type 0) → StampOrderAccounts k R
accounts k laws R values brought e calls =
    accounted k laws values _ _ (run_inv k laws values calls (start k values brought) (founded_inv k laws values brought e))
