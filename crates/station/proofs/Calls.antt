-- The definitions of look, put and tune, shown to leave what is written place by place.
use Rattle.std.proofs.Common.{◌≡◌, ℕ, ◌+◌, ◌<◌, max, Bool, true, false, cond, ◌&&◌, leb, List, [], ◌∷◌, ◌++◌, map, length, take, set, Some, None, Ok, Err, Option, Result, sym, refl, ap, ◌∙◌, arith, length-append, length-set, length-take}
use lib.ListN.{length-map}
use Rattle.std.specs.List.{slice_get}
use Rattle.std.proofs.lemmas.Bool.{true≢false, false≢true, leb-false, eqb-true, and_parts}
use Rattle.std.proofs.lemmas.Bool.Decides.{nat_tests}
use Rattle.kinds.specs.Stamps.{Kind}
use Rattle.model.specs.declared.entry.Entry.{Entry}
use Rattle.model.specs.declared.image.ImageRow.{ImageRow}
use Rattle.model.specs.declared.refusal.Refusal.{Refusal}
use Rattle.model.specs.declared.refusal.Refusal.TheVariants.{WrongTables, NoSuchRecord, NoRoom, SheetFull}
use Rattle.model.specs.Refusals.{refused_if}
use Rattle.model.specs.Sheets.{find, looked, put_unseen, put_on, with_value, own_value}
use Rattle.model.specs.Tables.{sized, laid}
use Rattle.model.proofs.Laid.{laid_same}
use Rattle.station.specs.declared.job.Standing.{Standing}
use Rattle.station.specs.declared.job.Standing.TheVariants.{Live, Shut}
use Rattle.station.specs.Station.{Image, image_sized, Acted, Station, Answered, work_of, put_back, carried_out, if_sized, unless, of_row, at_image, bounded_below, if_room, sheet_room, look_found, put_again, put_found, shut_down, first_write, struck, closed_by, tune_lower, tune_upper, tuned, at_next, look_job, put_job, tune_job}
use Rattle.station.specs.Heard.{station, answered, found_at, admitted, row_unless, on_unless, admitted_next}
use Rattle.station.specs.Places.{lifted_to, grown_to, shut, moved_to, refused, where_room, where_place, look_at, put_at, put_again_at, tune_by, bounds_if, tune_at}
use Rattle.station.proofs.Back.{laid_more, laid-set}
use Rattle.station.proofs.Found.{told, Told}

module _ {S R : Type 0} where
  -- a job put back unaltered leaves its station as it was
  pub unaltered : (t : Station S R) → put_back t (work_of t) ≡ t
  unaltered t =
      let c : max t.job.count (length (work_of t).entries) ≡ t.job.count = simp length-take (omega arith) in
      let e : laid (work_of t).entries t.sheet ≡ t.sheet = laid_same t.job.count t.sheet in
      λ i. record { job = record { image = t.job.image; lower = t.job.lower; upper = t.job.upper; standing = t.job.standing; count = c i }; sheet = e i }

  -- a job put back shut, or at another image with its entries altered in place
  shut_back : (t : Station S R) → put_back t (shut_down (work_of t)) ≡ station (shut t.job) t.sheet
  shut_back t = λ i. station (shut (unaltered t i).job) (unaltered t i).sheet

  moved_back : (t : Station S R) (image : ℕ) (lower : S) (upper : Option S) (f : Entry S R → Entry S R) → put_back t (record { image = image; lower = lower; upper = upper; standing = t.job.standing; entries = map f (work_of t).entries }) ≡ station (moved_to image lower upper t.job) (laid (map f (work_of t).entries) t.sheet)
  moved_back t image lower upper f =
      let c : max t.job.count (length (map f (work_of t).entries)) ≡ t.job.count = simp (length-map, length-take) (omega arith) in
      λ i. station (record { image = image; lower = lower; upper = upper; standing = t.job.standing; count = c i }) (laid (map f (work_of t).entries) t.sheet)

  -- one entry more
  grown_back : (t : Station S R) (lower : S) (e : Entry S R) → t.job.count < length t.sheet → put_back t (bounded_below (work_of t) lower ((work_of t).entries ++ (e ∷ []))) ≡ station (grown_to lower t.job) (set t.sheet t.job.count e)
  grown_back t lower e h =
      let c : max t.job.count (length ((work_of t).entries ++ (e ∷ []))) ≡ t.job.count + 1 = simp (length-append, length-take) (omega arith) in
      let l : laid ((work_of t).entries ++ (e ∷ [])) t.sheet ≡ set t.sheet t.job.count e = laid_more t.sheet t.job.count e h in
      λ i. station (record { image = t.job.image; lower = lower; upper = t.job.upper; standing = t.job.standing; count = c i }) (l i)

  -- one entry put with a value
  put_back_on : (t : Station S R) (lower : S) (es : List (Entry S R)) (i : ℕ) (e : Entry S R) → i < length (work_of t).entries → es ≡ set (work_of t).entries i e → put_back t (bounded_below (work_of t) lower es) ≡ station (lifted_to lower t.job) (set t.sheet i e)
  put_back_on t lower es i e h q =
      let c : max t.job.count (length es) ≡ t.job.count = rw q (simp (length-set, length-take) (omega arith)) in
      let l : laid es t.sheet ≡ set t.sheet i e = rw q (laid-set t.sheet t.job.count i e h) in
      λ j. station (record { image = t.job.image; lower = lower; upper = t.job.upper; standing = t.job.standing; count = c j }) (l j)

module _ {S R A : Type 0} (t : Station S R) where
  abbrev answers : Result A Refusal → Station S R → Answered S R A
  answers r s = record { answer = r; station = s }

  -- an answer that alters nothing
  only_answers : (r : Result A Refusal) → answered r t.job t.sheet ≡ carried_out t (record { answer = r; work = work_of t })
  only_answers r = ap (answers r) (sym (unaltered t))

  -- where there is no place or no room, and where there is
  room_back : (o : Option S) (a : Acted S R A) (b : Answered S R A) → b ≡ carried_out t a → where_room o t b ≡ carried_out t (if_room o (work_of t) a)
  room_back None a b h = only_answers (Err NoRoom)
  room_back (Some s) a b h = h

  place_back : (a : Acted S R A) (b : Answered S R A) → length t.sheet ≡ 16 → (t.job.count < 16 → b ≡ carried_out t a) → where_place t b ≡ carried_out t (unless (sheet_room (work_of t)) (work_of t) a)
  place_back a b l h = by_count (leb 16 t.job.count) (leb 16 (length (work_of t).entries)) refl same
    where
      same : leb 16 t.job.count ≡ leb 16 (length (work_of t).entries)
      same = simp length-take (grind (arith, nat_tests))

      by_count : (c d : Bool) → leb 16 t.job.count ≡ c → c ≡ d → cond c (refused SheetFull t) b ≡ carried_out t (unless (refused_if d SheetFull None) (work_of t) a)
      by_count true true e q = only_answers (Err SheetFull)
      by_count false false e q = h (leb-false 16 t.job.count e)
      by_count true false e q = absurd (true≢false q)
      by_count false true e q = absurd (false≢true q)

  -- a look or a put, once its row is known or it is refused
  abbrev with_row : (ImageRow S R → Acted S R A) → Result (ImageRow S R) Refusal → Answered S R A
  with_row f (Err r) = answered (Err r) t.job t.sheet
  with_row f (Ok row) = carried_out t (f row)

  abbrev on_row : Image S R → ℕ → (ImageRow S R → Acted S R A) → Answered S R A
  on_row i x f = if_sized t i (unless (at_image (work_of t) i) (work_of t) (of_row (slice_get i.rows x) (work_of t) f))

  admits : (i : Image S R) (x : ℕ) (f : ImageRow S R → Acted S R A) → with_row f (admitted t i x) ≡ on_row i x f
  admits i x f = by_size (image_sized i && sized t.sheet 16) (at_image (work_of t) i) (slice_get i.rows x)
    where
      by_size : (b : Bool) (o : Option Refusal) (row : Option (ImageRow S R)) → with_row f (cond b (row_unless o row) (Err WrongTables)) ≡ cond b (carried_out t (unless o (work_of t) (of_row row (work_of t) f))) (answered (Err WrongTables) t.job t.sheet)
      by_size false o row = refl
      by_size true (Some r) row = only_answers (Err r)
      by_size true None None = only_answers (Err NoSuchRecord)
      by_size true None (Some row) = refl

  -- a call that is refused its row, and one that has it
  pub stops : (i : Image S R) (x : ℕ) (f : ImageRow S R → Acted S R A) (r : Refusal) → Err r ≡ admitted t i x → answered (Err r) t.job t.sheet ≡ on_row i x f
  stops i x f r h = ap (with_row f) h ∙ admits i x f

  pub goes_on : (i : Image S R) (x : ℕ) (f : ImageRow S R → Acted S R A) (row : ImageRow S R) → Ok row ≡ admitted t i x → carried_out t (f row) ≡ on_row i x f
  goes_on i x f row h = ap (with_row f) h ∙ admits i x f

-- an admitted call has a sheet of 16 places
admitted_sized : {S R : Type 0} (t : Station S R) (i : Image S R) (x : ℕ) (row : ImageRow S R) → Ok row ≡ admitted t i x → length t.sheet ≡ 16
admitted_sized {S} {R} t i x row h =
    eqb-true (length t.sheet) 16 (and_parts (image_sized i) (sized t.sheet 16) (fits (image_sized i && sized t.sheet 16) (row_unless (at_image (work_of t) i) (slice_get i.rows x)) h)).1
  where
    fits : (b : Bool) (a : Result (ImageRow S R) Refusal) → Ok row ≡ cond b a (Err WrongTables) → b ≡ true
    fits true a e = refl
    fits false a e = let z : ◌≡◌ {A = ℕ} 0 1 = cc in absurd (omega arith)

module _ {S R : Type 0} (k : Kind S) (t : Station S R) (l : length t.sheet ≡ 16) (x : ℕ) (row : ImageRow S R) where
  abbrev entries : List (Entry S R)
  entries = (work_of t).entries

  -- look
  look_by : (o : Option (ℕ × Entry S R)) → Told entries (find x entries) (λ v. put_on x v entries) o → look_at k t o x row ≡ carried_out t (look_found k (find x entries) (work_of t) x row)
  look_by (Some p) h =
      only_answers t (Ok (own_value p.1)) ∙ ap (λ (o : Option (Entry S R)). carried_out t (look_found k o (work_of t) x row)) (sym h.1)
  look_by None h =
      place_back t _ _ l (λ c. room_back t _ _ _ (ap (answers t (Ok row.value)) (sym (grown_back t _ (looked x row) (omega arith)))))
      ∙ ap (λ (o : Option (Entry S R)). carried_out t (look_found k o (work_of t) x row)) (sym h)

  -- put
  again_by : (v : R) (i : ℕ) (e : Entry S R) (b : Bool) → b ≡ e.put → i < length entries → put_on x v entries ≡ set entries i (with_value v e) → put_again_at k t i e row v ≡ carried_out t (put_again k b (work_of t) x row v)
  again_by v i e true p h q = rw (← p) (ap (answers t (Ok tt)) (sym (put_back_on t t.job.lower _ i (with_value v e) h q)))
  again_by v i e false p h q = rw (← p) (room_back t _ _ _ (ap (answers t (Ok tt)) (sym (put_back_on t _ _ i (with_value v e) h q))))

  put_by : (v : R) (o : Option (ℕ × Entry S R)) → Told entries (find x entries) (λ v. put_on x v entries) o → put_at k t o x row v ≡ carried_out t (put_found k (find x entries) (work_of t) x v row)
  put_by v (Some p) h =
      again_by v p.0 p.1 p.1.put refl h.0 (h.2 v) ∙ ap (λ (o : Option (Entry S R)). carried_out t (put_found k o (work_of t) x v row)) (sym h.1)
  put_by v None h =
      place_back t _ _ l (λ c. room_back t _ _ _ (ap (answers t (Ok tt)) (sym (grown_back t _ (put_unseen x row v) (omega arith)))))
      ∙ ap (λ (o : Option (Entry S R)). carried_out t (put_found k o (work_of t) x v row)) (sym h)

module _ {S R : Type 0} (k : Kind S) (t : Station S R) (i : Image S R) (x : ℕ) (row : ImageRow S R) (h : Ok row ≡ admitted t i x) where
  pub looks : look_at k t (found_at x (take t.job.count t.sheet)) x row ≡ look_job k t i x
  looks = look_by k t (admitted_sized t i x row h) x row (found_at x (work_of t).entries) (told x (work_of t).entries) ∙ goes_on t i x (look_found k (find x (work_of t).entries) (work_of t) x) row h

  pub puts : (v : R) → put_at k t (found_at x (take t.job.count t.sheet)) x row v ≡ put_job k t i x v
  puts v = put_by k t (admitted_sized t i x row h) x row v (found_at x (work_of t).entries) (told x (work_of t).entries) ∙ goes_on t i x (put_found k (find x (work_of t).entries) (work_of t) x v) row h

-- tune
module _ {S R : Type 0} (k : Kind S) (t : Station S R) (i : Image S R) where
  pub tune_stops : (r : Refusal) → Err r ≡ admitted_next k t i → answered (Err r) t.job t.sheet ≡ tune_job k t i
  tune_stops r h = by_size (image_sized i && sized t.sheet 16) (at_next k (work_of t) i) _ h
    where
      by_size : (b : Bool) (o : Option Refusal) (a : Acted S R Standing) → Err r ≡ cond b (on_unless o) (Err WrongTables) → answered (Err r) t.job t.sheet ≡ cond b (carried_out t (unless o (work_of t) a)) (answered (Err WrongTables) t.job t.sheet)
      by_size false o a e = let q : r ≡ WrongTables = cc in ap (λ (f : Refusal). answered (Err f) t.job t.sheet) q
      by_size true (Some f) a e = let q : r ≡ f = cc in ap (λ (f : Refusal). answered (Err f) t.job t.sheet) q ∙ only_answers t (Err f)
      by_size true None a e = let z : ◌≡◌ {A = ℕ} 0 1 = cc in absurd (omega arith)

  tune_goes_on : (a : Acted S R Standing) → Ok tt ≡ admitted_next k t i → carried_out t a ≡ if_sized t i (unless (at_next k (work_of t) i) (work_of t) a)
  tune_goes_on a h = by_size (image_sized i && sized t.sheet 16) (at_next k (work_of t) i) h
    where
      by_size : (b : Bool) (o : Option Refusal) → Ok tt ≡ cond b (on_unless o) (Err WrongTables) → carried_out t a ≡ cond b (carried_out t (unless o (work_of t) a)) (answered (Err WrongTables) t.job t.sheet)
      by_size false o e = let z : ◌≡◌ {A = ℕ} 0 1 = cc in absurd (omega arith)
      by_size true (Some f) e = let z : ◌≡◌ {A = ℕ} 0 1 = cc in absurd (omega arith)
      by_size true None e = refl

  tune_back : (b : Bool) (p : Option S) → tune_by k t (bounds_if b p (tune_lower k (work_of t) i, tune_upper k (work_of t) i)) i ≡ carried_out t (tuned k b p (work_of t) i)
  tune_back true p = ap (answers t (Ok Shut)) (sym (shut_back t))
  tune_back false None = ap (answers t (Ok Shut)) (sym (shut_back t))
  tune_back false (Some s) = ap (answers t (Ok Live)) (sym (moved_back t i.number (tune_lower k (work_of t) i) (tune_upper k (work_of t) i) (closed_by (first_write i))))

  pub tunes : Ok tt ≡ admitted_next k t i → tune_at k t i ≡ tune_job k t i
  tunes h = tune_back (struck (first_write i) (work_of t).entries) (k.pick (tune_lower k (work_of t) i) (tune_upper k (work_of t) i)) ∙ tune_goes_on _ h
