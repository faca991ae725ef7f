-- Look, put and tune keep what a job keeps, and write the lines that the daybook writes.
use Rattle.std.proofs.Common.{◌≡◌, ℕ, ◌+◌, ◌<◌, ◌≤◌, Bool, true, false, cond, ◌&&◌, eqb, leb, List, [], ◌∷◌, ◌++◌, length, is_some, Some, None, Ok, Err, Option, sym, refl, ap, ◌∙◌, subst, inl, inr, arith, length-append}
use Rattle.std.specs.Option.{option_map}
use Rattle.std.specs.List.{slice_get}
use Rattle.std.proofs.lemmas.Bool.{eqb-true, leb-false, not-false, true≢false, false≢true}
use Rattle.std.proofs.ByRecursion.{All-push, All-map}
use Rattle.kinds.specs.Stamps.{Kind, Lawful}
use Rattle.kinds.specs.Bounds.{later}
use Rattle.model.specs.declared.entry.Entry.{Entry}
use Rattle.model.specs.declared.image.ImageRow.{ImageRow}
use Rattle.station.specs.declared.job.Standing.{Standing}
use Rattle.station.specs.declared.job.Standing.TheVariants.{Shut}
use Rattle.model.specs.declared.refusal.Refusal.{Refusal}
use Rattle.model.specs.declared.refusal.Refusal.TheVariants.{JobShut, OtherImage, NotNextImage, NoSuchRecord, SheetFull, NoRoom}
use Rattle.model.specs.Rows.{Stood}
use Rattle.model.specs.Sheets.{find, looked, put_unseen, put_on, closed}
use Rattle.station.specs.Station.{Image, Work, Acted, is_shut, bounded_below, shut_down, refuse, unless, if_room, of_row, at_image, sheet_room, look_lower, look_new, look_found, look_work, put_lower, put_bounded, put_again, put_found, put_work, first_write, read_stamp, struck, closed_by, tune_lower, tune_upper, tuned, at_next, tune_work}
use Rattle.law.specs.Daybook.{AcceptedJob, has_line, line_looked, line_put}
use Rattle.law.proofs.StampOrder.{Le, le_refl, le_trans, later_left, later_right, Under}
use Rattle.law.proofs.Members.{In, all_in, in_all}
use Rattle.law.proofs.Views.{leaf}
use Rattle.law.proofs.Leaves.{line_if, put_again_line, put_new_line, look_line, leaf_closed, distinct_push}
use Rattle.law.proofs.Plays.{Origin}
use Rattle.law.proofs.History.{Passed, Since, passed_under}
use Rattle.law.proofs.Bounds.{upper_old, upper_new, lower_over}
use Rattle.std.proofs.lemmas.Option.{slice_get_within}
use Rattle.law.proofs.Jobs.{refused_none, row_stood, Closed, EntryOk, HasPlace, JobOk, sheet_lower, sheet-put_on, numbers-put_on, length-put_on, put_on_distinct, closed_length, closed_number, closed_distinct}

pub not_ok : {A C : Type 0} {r : Refusal} {v : A} → Err r ≡ Ok v → C
not_ok e = let z : ◌≡◌ {A = ℕ} 0 1 = cc in absurd (let y : ⊥ = omega arith in y)

pub not_err : {A C : Type 0} {r : Refusal} {v : A} → Ok v ≡ Err r → C
not_err e = not_ok (sym e)

module _ {S R : Type 0} (k : Kind S) (laws : Lawful k) (values : List R) (jobs : List (AcceptedJob S R)) (top : ℕ → S) (shown : ℕ → ℕ → Option (Stood S R)) (cycle : ℕ) where
  abbrev pub Good : Work S R → Type 0
  Good w = JobOk k values jobs top shown cycle w

  -- what a call leaves of a job: it keeps what it kept, and a refusal leaves it as it was
  pub record Kept {A : Type 0} (w : Work S R) (a : Acted S R A) : Type 0 where
    pub keeps : Good a.work
    pub grows : length w.entries ≤ length a.work.entries
    pub unaltered : (r : Refusal) → a.answer ≡ Err r → a.work ≡ w

  -- a look writes the line that the daybook writes
  abbrev pub LookLine : Work S R → Image S R → ℕ → Acted S R R → Type 0
  LookLine w i x a =
      (v : R) → a.answer ≡ Ok v → (row : ImageRow S R) × (slice_get i.rows x ≡ Some row) × (line_looked (has_line x (leaf w.entries)) x (record { value = v; stamp = row.write }) (leaf w.entries) ≡ leaf a.work.entries)

  abbrev pub PutLine : Work S R → ℕ → R → Acted S R (Unit {0}) → Type 0
  PutLine w x v a = (u : Unit {0}) → a.answer ≡ Ok u → line_put x v (leaf w.entries) ≡ leaf a.work.entries

  refused_kept : {A : Type 0} (w : Work S R) (r : Refusal) → Good w → Kept {A = A} w (refuse r w)
  refused_kept w r ok = record { keeps = ok; grows = omega arith; unaltered = λ q e. refl }

  module _ (w : Work S R) (i : Image S R) (ok : Good w) (size : length i.rows ≡ length values) (shows : (x : ℕ) → shown i.number x ≡ option_map row_stood (slice_get i.rows x)) (origin : (n : ℕ) → n ≤ cycle → (x : ℕ) (t : Stood S R) → shown n x ≡ Some t → Origin k.order values jobs x t) where
    inside_row : (x : ℕ) (row : ImageRow S R) → slice_get i.rows x ≡ Some row → x < length values
    inside_row x row e = let l = slice_get_within i.rows x row e in omega arith

    -- an entry at the end of the sheet, with a lower bound that is not before the old one
    push_kept : {A : Type 0} (a : A) (e : Entry S R) (lower s : S) → Le k.order w.lower lower → find e.number w.entries ≡ None → e.number < length values → sheet_room w ≡ None → k.pick lower w.upper ≡ Some s
        → EntryOk k.order values jobs top (shown w.image) lower w.upper e → Kept w (record { answer = Ok a; work = bounded_below w lower (w.entries ++ (e ∷ [])) })
    push_kept a e lower s up f inside room p h =
        record {
          keeps = record {
            stands = ok.stands;
            entries = All-push (EntryOk k.order values jobs top (shown w.image) lower w.upper) w.entries e
                (sheet_lower k.order laws.ordered values jobs top (shown w.image) w.lower lower w.upper up w.entries ok.entries) h;
            distinct = distinct_push w.entries e ok.distinct f;
            inside = All-push (λ (a : Entry S R). a.number < length values) w.entries e ok.inside inside;
            few = let l = leb-false 16 (length w.entries) (refused_none (leb 16 (length w.entries)) SheetFull None room).0 in simp length-append (omega arith);
            place = inr (inr (ap is_some p));
          };
          grows = simp length-append (omega arith);
          unaltered = λ r q. not_err q;
        }

    -- look
    look_new_kept : (x : ℕ) (row : ImageRow S R) → i.number ≡ w.image → slice_get i.rows x ≡ Some row → find x w.entries ≡ None → sheet_room w ≡ None → (p : Option S) → k.pick (look_lower k w row) w.upper ≡ p → Kept w (if_room p w (record { answer = Ok row.value; work = bounded_below w (look_lower k w row) (w.entries ++ (looked x row ∷ [])) }))
    look_new_kept x row n e f room None p = refused_kept w NoRoom ok
    look_new_kept x row n e f room (Some s) p =
        push_kept row.value (looked x row) (look_lower k w row) s (later_left k.order laws.ordered w.lower row.write) f (inside_row x row e) room p
        (λ q. record {
          origin = origin w.image ok.stands x (row_stood row) shown_row;
          low = later_right k.order laws.ordered w.lower row.write;
          stays = λ q. shown_row;
          shuts = λ q. absurd (true≢false q);
        })
      where
        shown_row : shown w.image x ≡ Some (row_stood row)
        shown_row = ap (λ m. shown m x) (sym n) ∙ shows x ∙ ap (option_map row_stood) e

    look_new_line : (x : ℕ) (row : ImageRow S R) → slice_get i.rows x ≡ Some row → find x w.entries ≡ None → (p : Option S) → LookLine w i x (if_room p w (record { answer = Ok row.value; work = bounded_below w (look_lower k w row) (w.entries ++ (looked x row ∷ [])) }))
    look_new_line x row e f None v q = not_ok q
    look_new_line x row e f (Some s) v q =
        let u : row.value ≡ v = cc in
        (row, e, ap (λ z. line_looked (has_line x (leaf w.entries)) x (record { value = z; stamp = row.write }) (leaf w.entries)) (sym u) ∙ look_line x row w.entries f)

    pub record LookKept (x : ℕ) (a : Acted S R R) : Type 0 where
      pub kept : Kept w a
      pub line : LookLine w i x a

    look_refused : (x : ℕ) (r : Refusal) → LookKept x (refuse r w)
    look_refused x r = record { kept = refused_kept w r ok; line = λ v q. not_ok q }

    look_found_kept : (x : ℕ) (row : ImageRow S R) → i.number ≡ w.image → slice_get i.rows x ≡ Some row → (f : Option (Entry S R)) → find x w.entries ≡ f → LookKept x (look_found k f w x row)
    look_found_kept x row n e (Some f) h =
        record {
          kept = record { keeps = ok; grows = omega arith; unaltered = λ r q. refl };
          line = λ v q. (row, e, ap (λ b. line_looked b x (record { value = v; stamp = row.write }) (leaf w.entries)) (line_if x w.entries f h));
        }
    look_found_kept x row n e None h = by (sheet_room w) refl
      where
        by : (r : Option Refusal) → sheet_room w ≡ r → LookKept x (unless r w (look_new k w x row))
        by (Some r) q = look_refused x r
        by None q =
            record {
              kept = look_new_kept x row n e h q (k.pick (look_lower k w row) w.upper) refl;
              line = look_new_line x row e h (k.pick (look_lower k w row) w.upper);
            }

    at_its_image : at_image w i ≡ None → i.number ≡ w.image
    at_its_image e =
        eqb-true i.number w.image (not-false (eqb i.number w.image) (refused_none _ OtherImage None (refused_none (is_shut w.standing) JobShut _ e).1).0)

    pub look_kept : (x : ℕ) → LookKept x (look_work k w i x)
    look_kept x = by (at_image w i) refl
      where
        at_row : i.number ≡ w.image → (f : Option (ImageRow S R)) → slice_get i.rows x ≡ f → LookKept x (of_row f w (look_found k (find x w.entries) w x))
        at_row n None e = look_refused x NoSuchRecord
        at_row n (Some row) e = look_found_kept x row n e (find x w.entries) refl

        by : (r : Option Refusal) → at_image w i ≡ r → LookKept x (unless r w (of_row (slice_get i.rows x) w (look_found k (find x w.entries) w x)))
        by (Some r) e = look_refused x r
        by None e = at_row (at_its_image e) (slice_get i.rows x) refl

    -- put
    put_up : (row : ImageRow S R) → Le k.order w.lower (put_lower k w row)
    put_up row =
        le_trans k.order laws.ordered _ _ _ (later_left k.order laws.ordered w.lower row.write) (later_left k.order laws.ordered (later k.order w.lower row.write) row.read)

    pub record PutKept (x : ℕ) (v : R) (a : Acted S R (Unit {0})) : Type 0 where
      pub kept : Kept w a
      pub line : PutLine w x v a

    put_refused : (x : ℕ) (v : R) (r : Refusal) → PutKept x v (refuse r w)
    put_refused x v r = record { kept = refused_kept w r ok; line = λ u q. not_ok q }

    put_new_kept : (x : ℕ) (v : R) (row : ImageRow S R) → slice_get i.rows x ≡ Some row → find x w.entries ≡ None → sheet_room w ≡ None → (p : Option S) → k.pick (put_lower k w row) w.upper ≡ p → PutKept x v (if_room p w (record { answer = Ok tt; work = bounded_below w (put_lower k w row) (w.entries ++ (put_unseen x row v ∷ [])) }))
    put_new_kept x v row e f room None p = put_refused x v NoRoom
    put_new_kept x v row e f room (Some s) p =
        record {
          kept = push_kept tt (put_unseen x row v) (put_lower k w row) s (put_up row) f (inside_row x row e) room p (λ q. absurd (false≢true q));
          line = λ u q. put_new_line x row v w.entries f;
        }

    -- a record on the sheet, put with new bounds or the old ones
    put_on_kept : (x : ℕ) (v : R) (e : Entry S R) → find x w.entries ≡ Some e → (lower : S) → Le k.order w.lower lower → HasPlace k (bounded_below w lower (put_on x v w.entries)) → PutKept x v (record { answer = Ok tt; work = bounded_below w lower (put_on x v w.entries) })
    put_on_kept x v e f lower up place =
        record {
          kept = record {
            keeps = record {
              stands = ok.stands;
              entries = sheet-put_on k.order laws.ordered values jobs top (shown w.image) lower w.upper x v w.entries
                  (sheet_lower k.order laws.ordered values jobs top (shown w.image) w.lower lower w.upper up w.entries ok.entries);
              distinct = put_on_distinct x v w.entries ok.distinct;
              inside = numbers-put_on (λ n. n < length values) x v w.entries ok.inside;
              few = let l = length-put_on x v w.entries in let m = ok.few in omega arith;
              place = place;
            };
            grows = let l = length-put_on x v w.entries in omega arith;
            unaltered = λ r q. not_err q;
          };
          line = λ u q. put_again_line x v w.entries e f;
        }

    same_place : (x : ℕ) (v : R) → HasPlace k w → HasPlace k (bounded_below w w.lower (put_on x v w.entries))
    same_place x v (inl h) = inl (ap (put_on x v) h.0, h.1, h.2)
    same_place x v (inr h) = inr h

    put_again_kept : (x : ℕ) (v : R) (row : ImageRow S R) (e : Entry S R) → find x w.entries ≡ Some e → (b : Bool) → PutKept x v (put_again k b w x row v)
    put_again_kept x v row e f true = put_on_kept x v e f w.lower (le_refl k.order laws.ordered w.lower) (same_place x v ok.place)
    put_again_kept x v row e f false = by (k.pick (put_lower k w row) w.upper) refl
      where
        by : (p : Option S) → k.pick (put_lower k w row) w.upper ≡ p → PutKept x v (if_room p w (record { answer = Ok tt; work = bounded_below w (put_lower k w row) (put_on x v w.entries) }))
        by None p = put_refused x v NoRoom
        by (Some s) p = put_on_kept x v e f (put_lower k w row) (put_up row) (inr (inr (ap is_some p)))

    put_found_kept : (x : ℕ) (v : R) (row : ImageRow S R) → slice_get i.rows x ≡ Some row → (f : Option (Entry S R)) → find x w.entries ≡ f → PutKept x v (put_found k f w x v row)
    put_found_kept x v row e (Some f) h = put_again_kept x v row f h f.put
    put_found_kept x v row e None h = by (sheet_room w) refl
      where
        by : (r : Option Refusal) → sheet_room w ≡ r → PutKept x v (unless r w (put_bounded k w row (w.entries ++ (put_unseen x row v ∷ []))))
        by (Some r) q = put_refused x v r
        by None q = put_new_kept x v row e h q (k.pick (put_lower k w row) w.upper) refl

    pub put_kept : (x : ℕ) (v : R) → PutKept x v (put_work k w i x v)
    put_kept x v = by (at_image w i)
      where
        at_row : (f : Option (ImageRow S R)) → slice_get i.rows x ≡ f → PutKept x v (of_row f w (put_found k (find x w.entries) w x v))
        at_row None e = put_refused x v NoSuchRecord
        at_row (Some row) e = put_found_kept x v row e (find x w.entries) refl

        by : (r : Option Refusal) → PutKept x v (unless r w (of_row (slice_get i.rows x) w (put_found k (find x w.entries) w x v)))
        by (Some r) = put_refused x v r
        by None = at_row (slice_get i.rows x) refl

  -- tune
  module _ (w : Work S R) (i : Image S R) (ok : Good w) (within : i.number ≤ cycle) (since : i.number ≡ w.image + 1 → (x : ℕ) → Since k.order jobs x (top x) (shown w.image x) (shown i.number x) (first_write i x)) where
    pub record TuneKept (a : Acted S R Standing) : Type 0 where
      pub kept : Kept w a
      pub line : leaf a.work.entries ≡ leaf w.entries

    entry_tuned : i.number ≡ w.image + 1 → (e : Entry S R) → In e w.entries → EntryOk k.order values jobs top (shown w.image) w.lower w.upper e → EntryOk k.order values jobs top (shown i.number) (tune_lower k w i) (tune_upper k w i) (closed_by (first_write i) e)
    entry_tuned next e m h = by e.opened (first_write i e.number) refl refl (since next e.number)
      where
        x : ℕ
        x = e.number

        saw : Stood S R
        saw = record { value = e.saw; stamp = e.noted }

        lower_ok : Le k.order w.lower (tune_lower k w i)
        lower_ok = lower_over k.order laws.ordered (read_stamp i) w.entries w.lower

        low : e.seen ≡ true → Le k.order e.noted (tune_lower k w i)
        low q = le_trans k.order laws.ordered _ w.lower (tune_lower k w i) (h q).low lower_ok

        narrowed_to : (f : S) → Passed k.order jobs e.number (top e.number) e.noted f → Under k.order laws.ordered (tune_upper k w i) f → Closed k.order jobs (top e.number) (tune_upper k w i) e.number e.noted
        narrowed_to f p u = record { bound = u.bound; is = u.is; passed = passed_under k.order laws.ordered jobs e.number (top e.number) e.noted f u.bound u.low p }

        by : (b : Bool) (f : Option S) → e.opened ≡ b → first_write i e.number ≡ f → Since k.order jobs e.number (top e.number) (shown w.image e.number) (shown i.number e.number) f → EntryOk k.order values jobs top (shown i.number) (tune_lower k w i) (tune_upper k w i) (cond (b && is_some f) (closed e) e)
        by true (Some f) p q n = λ s.
            record {
              origin = (h s).origin;
              low = low s;
              stays = λ z. absurd (false≢true z);
              shuts = λ z. narrowed_to f (n (record { value = e.saw; stamp = e.noted }) ((h s).stays p)) (upper_new k.order laws.ordered (first_write i) w.entries w.upper e f m p q);
            }
        by true None p q n = λ s.
            record {
              origin = (h s).origin;
              low = low s;
              stays = λ z. n ∙ (h s).stays p;
              shuts = λ z. absurd (true≢false (sym p ∙ z));
            }
        by false f p q n = λ s.
            record {
              origin = (h s).origin;
              low = low s;
              stays = λ z. absurd (false≢true (sym p ∙ z));
              shuts = λ z. let c = (h s).shuts p in narrowed_to c.bound c.passed (upper_old k.order laws.ordered (first_write i) w.entries w.upper c.bound (record { bound = c.bound; is = c.is; low = le_refl k.order laws.ordered c.bound }));
            }

    shut_kept : TuneKept (record { answer = Ok Shut; work = shut_down w })
    shut_kept =
        record {
          kept = record {
            keeps = record { stands = ok.stands; entries = ok.entries; distinct = ok.distinct; inside = ok.inside; few = ok.few; place = inr (inl refl) };
            grows = omega arith;
            unaltered = λ r q. not_err q;
          };
          line = refl;
        }

    tuned_kept : i.number ≡ w.image + 1 → (b : Bool) (p : Option S) → k.pick (tune_lower k w i) (tune_upper k w i) ≡ p → TuneKept (tuned k b p w i)
    tuned_kept next true p e = shut_kept
    tuned_kept next false None e = shut_kept
    tuned_kept next false (Some s) e =
        record {
          kept = record {
            keeps = record {
              stands = within;
              entries = All-map (EntryOk k.order values jobs top (shown i.number) (tune_lower k w i) (tune_upper k w i)) (closed_by (first_write i)) w.entries
                  (in_all (λ (e : Entry S R). EntryOk k.order values jobs top (shown i.number) (tune_lower k w i) (tune_upper k w i) (closed_by (first_write i) e)) w.entries
                  (λ e m. entry_tuned next e m (all_in (EntryOk k.order values jobs top (shown w.image) w.lower w.upper) m ok.entries)));
              distinct = closed_distinct (first_write i) w.entries ok.distinct;
              inside = All-map (λ (e : Entry S R). e.number < length values) (closed_by (first_write i)) w.entries
                  (in_all (λ (e : Entry S R). (closed_by (first_write i) e).number < length values) w.entries
                  (λ e m. subst (λ n. n < length values) (sym (closed_number (first_write i) e)) (all_in (λ (e : Entry S R). e.number < length values) m ok.inside)));
              few = let l = closed_length (first_write i) w.entries in let m = ok.few in omega arith;
              place = inr (inr (ap is_some e));
            };
            grows = let l = closed_length (first_write i) w.entries in omega arith;
            unaltered = λ r q. not_err q;
          };
          line = leaf_closed (first_write i) w.entries;
        }

    at_the_next : at_next k w i ≡ None → i.number ≡ w.image + 1
    at_the_next e =
        eqb-true i.number (w.image + 1) (not-false (eqb i.number (w.image + 1)) (refused_none _ NotNextImage _ (refused_none (is_shut w.standing) JobShut _ e).1).0)

    pub tune_kept : TuneKept (tune_work k w i)
    tune_kept = by (at_next k w i) refl
      where
        by : (r : Option Refusal) → at_next k w i ≡ r → TuneKept (unless r w (tuned k (struck (first_write i) w.entries) (k.pick (tune_lower k w i) (tune_upper k w i)) w i))
        by (Some r) e = record { kept = refused_kept w r ok; line = refl }
        by None e = tuned_kept (at_the_next e) (struck (first_write i) w.entries) (k.pick (tune_lower k w i) (tune_upper k w i)) refl
