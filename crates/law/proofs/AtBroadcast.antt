-- Publish keeps what every run keeps.
use Rattle.std.proofs.Common.{◌≡◌, ℕ, zero, suc, ◌+◌, ◌<◌, ◌≤◌, ◌⊎◌, List, [], ◌∷◌, ◌++◌, map, length, replicate, Some, None, Option, sym, refl, ap, ◌∙◌, subst, inl, inr, ⊎_elim, arith, length-append}
use Rattle.std.specs.Option.{option_map}
use Rattle.std.specs.List.{AllByRecursion, slice_get}
use Rattle.std.proofs.lemmas.Bool.{cases_eq}
use Rattle.std.proofs.ByRecursion.{All-weaker}
use Rattle.kinds.specs.Stamps.{Kind, Lawful}
use Rattle.model.specs.declared.entry.Entry.{Entry}
use Rattle.model.specs.declared.row.Row.{Row}
use Rattle.model.specs.declared.refusal.Refusal.{Refusal}
use Rattle.model.specs.Rows.{Stood}
use Rattle.station.specs.Station.{Image, work_of, first_write, first_in}
use Rattle.registrar.specs.Deciding.{Waiting}
use Rattle.registrar.specs.Registry.{Registry, publish, publish_refused, published_unless, image_of, cleared, shown_rows, queue_of}
use Rattle.law.specs.Daybook.{Daybook, AcceptedJob}
use Rattle.law.specs.Account.{FinalOrder}
use Rattle.law.specs.Runs.{Desk, after_publish}
use Rattle.law.proofs.StampOrder.{some_inj}
use Rattle.law.proofs.Members.{In}
use Rattle.law.proofs.Sizes.{sizes, sized_cleared}
use Rattle.law.proofs.Queues.{queue_kept}
use Rattle.law.proofs.Journals.{journal_same}
use Rattle.std.proofs.lemmas.Option.{slice_get_within}
use Rattle.law.proofs.RowLaws.{length-shown}
use Rattle.law.proofs.History.{Since, RowOk}
use Rattle.law.proofs.Jobs.{EntryOk, row_stood}
use Rattle.law.proofs.Acceptance.{top_at, older_at, stood_at, first_at}
use Rattle.law.proofs.Invariant.{shown_by, shown_in, ImageOk, laid_of, Inv}

-- one element more at the end of a table
nth_front : {A : Type 0} (xs : List A) (a : A) (n : ℕ) → n < length xs → slice_get (xs ++ (a ∷ [])) n ≡ slice_get xs n
nth_front [] a n l = absurd (let y : ⊥ = omega arith in y)
nth_front (x ∷ xs) a zero l = refl
nth_front (x ∷ xs) a (suc n) l = nth_front xs a n (omega arith)

nth_back : {A : Type 0} (xs : List A) (a : A) → slice_get (xs ++ (a ∷ [])) (length xs) ≡ Some a
nth_back [] a = refl
nth_back (x ∷ xs) a = nth_back xs a

-- an image shows what stands in the rows, and the first writes
module _ {S R : Type 0} where
  image_shows : (rows : List (Row S R)) (firsts : List (Option S)) → length rows ≡ length firsts → (x : ℕ) → option_map row_stood (slice_get (shown_rows rows firsts) x) ≡ stood_at rows x
  image_shows [] firsts e x = refl
  image_shows (r ∷ rows) [] e x = absurd (let y : ⊥ = omega arith in y)
  image_shows (r ∷ rows) (f ∷ firsts) e zero = refl
  image_shows (r ∷ rows) (f ∷ firsts) e (suc x) = image_shows rows firsts (omega arith) x

  image_first : (rows : List (Row S R)) (firsts : List (Option S)) → length rows ≡ length firsts → (x : ℕ) → first_in (slice_get (shown_rows rows firsts) x) ≡ first_at firsts x
  image_first [] [] e x = refl
  image_first [] (f ∷ firsts) e x = absurd (let y : ⊥ = omega arith in y)
  image_first (r ∷ rows) [] e x = absurd (let y : ⊥ = omega arith in y)
  image_first (r ∷ rows) (f ∷ firsts) e zero = refl
  image_first (r ∷ rows) (f ∷ firsts) e (suc x) = image_first rows firsts (omega arith) x

-- no first write in a table that was cleared
pub none_first : {S : Type 0} (n x : ℕ) → first_at {S = S} (replicate n None) x ≡ None
none_first zero x = refl
none_first (suc n) zero = refl
none_first (suc n) (suc x) = none_first n x

module _ {S R : Type 0} (k : Kind S) (laws : Lawful k) (values : List R) (d : Desk S R) (b : Daybook S R) (h : Inv k values d b) (i : Image S R) where
  abbrev g : Registry S R
  g = d.registry

  abbrev fresh : Image S R
  fresh = image_of d.registry i

  abbrev images : List (Image S R)
  images = d.images ++ (image_of d.registry i ∷ [])

  more : length images ≡ suc (length d.images)
  more = length-append d.images (fresh ∷ []) ∙ (let y : length d.images + 1 ≡ suc (length d.images) = omega arith in y)

  level : length g.rows ≡ length g.firsts
  level = let z = sizes g h.sized in z.rows ∙ sym z.firsts

  -- the images before show what they showed, and the new one what stands
  shown_before : (n : ℕ) → n ≤ length d.images → (x : ℕ) → shown_in k.order values images n x ≡ shown_in k.order values d.images n x
  shown_before zero l x = refl
  shown_before (suc n) l x = ap (λ (z : Option (Image S R)). shown_by k.order values z x) (nth_front d.images fresh n (omega arith))

  shown_new : (x : ℕ) → shown_in k.order values images (suc (length d.images)) x ≡ stood_at g.rows x
  shown_new x = ap (λ (z : Option (Image S R)). shown_by k.order values z x) (nth_back d.images fresh) ∙ image_shows g.rows g.firsts level x

  shown_now : (x : ℕ) → shown_in k.order values images (length images) x ≡ stood_at g.rows x
  shown_now x = ap (λ n. shown_in k.order values images n x) more ∙ shown_new x

  -- an image of the longer list is one of before, or the new one
  either : (n : ℕ) (m : Image S R) → slice_get images n ≡ Some m → (slice_get d.images n ≡ Some m) ⊎ ((n ≡ length d.images) × (m ≡ fresh))
  either n m e =
      ⊎_elim (λ q. inr (q, some_inj (sym e ∙ ap (slice_get images) q ∙ nth_back d.images fresh)))
      (λ q. let l = slice_get_within images n m e in let w = more in inl (sym (nth_front d.images fresh n (omega arith)) ∙ e))
      (cases_eq n (length d.images))

  -- what an entry keeps, it keeps where the image shows the same
  entries_shown : (top : ℕ → S) (old new : ℕ → Option (Stood S R)) (lower : S) (upper : Option S) (es : List (Entry S R)) → ((x : ℕ) → new x ≡ old x) → AllByRecursion (EntryOk k.order values b.accepted top old lower upper) es → AllByRecursion (EntryOk k.order values b.accepted top new lower upper) es
  entries_shown top old new lower upper es q a =
      All-weaker (EntryOk k.order values b.accepted top old lower upper) (EntryOk k.order values b.accepted top new lower upper)
      (λ e z s. let c = z s in record { origin = c.origin; low = c.low; stays = λ y. q e.number ∙ c.stays y; shuts = c.shuts }) es a

  pub sent_out : Inv k values (record { registry = cleared d.registry; images = images; jobs = d.jobs }) b
  sent_out =
      record {
        sized = sized_cleared g h.sized;
        records = h.records;
        opening = h.opening;
        cycle = let m = more in let c = h.cycle in omega arith;
        images_ok = λ n m e. ⊎_elim (h.images_ok n m) (λ q. new_ok n m q) (either n m e);
        sound = h.sound;
        rows_ok = record { row = row_cleared; reads = h.rows_ok.reads };
        image_origin = λ n l x w e. ⊎_elim
            (λ q. (h.rows_ok.row x).origin w (sym (shown_new x) ∙ ap (λ m. shown_in k.order values images m x) (sym q) ∙ e))
            (λ q. let m = more in let y : n ≤ length d.images = omega arith in h.image_origin n y x w (sym (shown_before n y x) ∙ e)) (cases_eq n (suc (length d.images)));
        image_since = λ n m e x. ⊎_elim (old_since n m x) (λ q. new_since n m x q) (either n m e);
        job_ok = λ j t e. let z = h.job_ok j t e in let l = z.good.stands in let m = more in
            record {
              count = z.count;
              good = record {
                stands = omega arith;
                entries = entries_shown (top_at k.order g.rows) (shown_in k.order values d.images t.job.image) (shown_in k.order values images t.job.image) t.job.lower t.job.upper (work_of t).entries (shown_before t.job.image l) z.good.entries;
                distinct = z.good.distinct;
                inside = z.good.inside;
                few = z.good.few;
                place = z.good.place;
              };
            };
        job_leaf = h.job_leaf;
        queue_ok = λ w m. let z = h.queue_ok w (subst (λ (y : List (Waiting S R)). In w y) (sym same_queue) m) in let l = z.stands in let c = more in
            record {
              image = z.image;
              stands = omega arith;
              entries = entries_shown (top_at k.order g.rows) (shown_in k.order values d.images z.image) (shown_in k.order values images z.image) w.lower w.upper w.entries (shown_before z.image l) z.entries;
              distinct = z.distinct;
              inside = z.inside;
              few = z.few;
            };
        waiting = h.waiting ∙ ap (map laid_of) same_queue;
        journal = subst (λ (z : List (AcceptedJob S R)). FinalOrder k.order b.accepted z) (journal_same g (cleared g) refl refl refl) h.journal;
        placed = h.placed;
      }
    where
      same_queue : queue_of d.registry ≡ queue_of (cleared d.registry)
      same_queue = queue_kept d.registry (cleared d.registry) refl refl refl refl

      new_ok : (n : ℕ) (m : Image S R) → (n ≡ length d.images) × (m ≡ fresh) → ImageOk values n m
      new_ok n m q =
          subst (λ (z : Image S R). ImageOk values n z) (sym q.1)
          (record {
            numbered = let c = h.cycle in let e = q.0 in omega arith;
            rows = length-shown g.rows g.firsts level ∙ (sizes g h.sized).rows ∙ h.records;
          })

      row_cleared : (x : ℕ) → RowOk k.order values b.accepted x (shown_in k.order values images (length images) x) (stood_at g.rows x) (top_at k.order g.rows x) (older_at g.rows x) (first_at (cleared g).firsts x)
      row_cleared x =
          let z = h.rows_ok.row x in
          record {
            origin = z.origin;
            tops = z.tops;
            last = z.last;
            versions = z.versions;
            since = subst (λ (f : Option S). Since k.order b.accepted x (top_at k.order g.rows x) (shown_in k.order values images (length images) x) (stood_at g.rows x) f) (sym (none_first (length g.firsts) x)) (sym (shown_now x));
          }

      old_since : (n : ℕ) (m : Image S R) (x : ℕ) → slice_get d.images n ≡ Some m → Since k.order b.accepted x (top_at k.order g.rows x) (shown_in k.order values images n x) (option_map row_stood (slice_get m.rows x)) (first_write m x)
      old_since n m x e =
          let l = slice_get_within d.images n m e in
          subst (λ (z : Option (Stood S R)). Since k.order b.accepted x (top_at k.order g.rows x) z (option_map row_stood (slice_get m.rows x)) (first_write m x)) (sym (shown_before n (omega arith) x)) (h.image_since n m e x)

      last_since : (x : ℕ) → Since k.order b.accepted x (top_at k.order g.rows x) (shown_in k.order values images (length d.images) x) (option_map row_stood (slice_get fresh.rows x)) (first_write fresh x)
      last_since x =
          subst (λ (f : Option S). Since k.order b.accepted x (top_at k.order g.rows x) (shown_in k.order values images (length d.images) x) (option_map row_stood (slice_get fresh.rows x)) f) (sym (image_first g.rows g.firsts level x))
          (subst (λ (z : Option (Stood S R)). Since k.order b.accepted x (top_at k.order g.rows x) (shown_in k.order values images (length d.images) x) z (first_at g.firsts x)) (sym (image_shows g.rows g.firsts level x))
          (subst (λ (z : Option (Stood S R)). Since k.order b.accepted x (top_at k.order g.rows x) z (stood_at g.rows x) (first_at g.firsts x)) (sym (shown_before (length d.images) (omega arith) x)) (h.rows_ok.row x).since))

      new_since : (n : ℕ) (m : Image S R) (x : ℕ) → (n ≡ length d.images) × (m ≡ fresh) → Since k.order b.accepted x (top_at k.order g.rows x) (shown_in k.order values images n x) (option_map row_stood (slice_get m.rows x)) (first_write m x)
      new_since n m x q =
          subst (λ (z : ℕ). Since k.order b.accepted x (top_at k.order g.rows x) (shown_in k.order values images z x) (option_map row_stood (slice_get m.rows x)) (first_write m x)) (sym q.0)
          (subst (λ (z : Image S R). Since k.order b.accepted x (top_at k.order g.rows x) (shown_in k.order values images (length d.images) x) (option_map row_stood (slice_get z.rows x)) (first_write z x)) (sym q.1) (last_since x))

  pub publish_inv : let p = publish d.registry i in Inv k values (after_publish d p p.answer).desk b
  publish_inv = by (publish_refused d.registry i)
    where
      by : (r : Option Refusal) → let p = published_unless r d.registry i in Inv k values (after_publish d p p.answer).desk b
      by (Some r) = h
      by None = sent_out
