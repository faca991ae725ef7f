-- The leaf of a job has the lines of its sheet.
use Rattle.std.proofs.Common.{◌≡◌, ℕ, Bool, true, false, cond, ◌&&◌, ◌||◌, eqb, ◌≢◌, List, [], ◌∷◌, ◌++◌, map, is_some, Some, None, Option, sym, refl, ap, ◌∙◌, ⊎_elim}
use Rattle.std.proofs.lemmas.Bool.{eqb-true, eqb-false, eq-eqb}
use Rattle.model.specs.declared.entry.Entry.{Entry}
use Rattle.model.specs.declared.image.ImageRow.{ImageRow}
use Rattle.model.specs.Sheets.{find, looked, put_unseen, put_on, with_value, closed}
use Rattle.station.specs.Station.{closed_by}
use Rattle.law.specs.Daybook.{Look, when, look_first, put_first, looks_of, puts_of, line_of, has_line, line_looked, line_put}
use Rattle.law.specs.Account.{put_of}
use Rattle.law.proofs.StampOrder.{some_none}
use Rattle.law.proofs.Members.{In, in_none, in_cons, here, there, pairs_push}
use Rattle.law.proofs.Views.{leaf, Distinct, looks_at}

module _ {S R : Type 0} where
  -- a record on the sheet has a line, and another has none
  pub line_if : (x : ℕ) (es : List (Entry S R)) (e : Entry S R) → find x es ≡ Some e → has_line x (leaf es) ≡ true
  line_if x [] e h = absurd (some_none (sym h))
  line_if x (f ∷ fs) e h = by (eqb x f.number) h (line_if x fs e)
    where
      by : (t : Bool) → cond t (Some f) (find x fs) ≡ Some e → (find x fs ≡ Some e → has_line x (leaf fs) ≡ true) → (t || has_line x (leaf fs)) ≡ true
      by true h ih = refl
      by false h ih = ih h

  pub no_line : (x : ℕ) (es : List (Entry S R)) → find x es ≡ None → has_line x (leaf es) ≡ false
  no_line x [] h = refl
  no_line x (f ∷ fs) h = by (eqb x f.number) h (no_line x fs)
    where
      by : (t : Bool) → cond t (Some f) (find x fs) ≡ None → (find x fs ≡ None → has_line x (leaf fs) ≡ false) → (t || has_line x (leaf fs)) ≡ false
      by true h ih = absurd (some_none h)
      by false h ih = ih h

  -- a put writes the line that its entry has
  pub put_again_line : (x : ℕ) (v : R) (es : List (Entry S R)) (e : Entry S R) → find x es ≡ Some e → line_put x v (leaf es) ≡ leaf (put_on x v es)
  put_again_line x v [] e h = absurd (some_none (sym h))
  put_again_line x v (f ∷ fs) e h = by (eqb x f.number) h (put_again_line x v fs e)
    where
      by : (t : Bool) → cond t (Some f) (find x fs) ≡ Some e → (find x fs ≡ Some e → line_put x v (leaf fs) ≡ leaf (put_on x v fs)) → cond t (record { number = f.number; look = (line_of f).look; put = Some v } ∷ leaf fs) (line_of f ∷ line_put x v (leaf fs)) ≡ leaf (cond t (with_value v f ∷ fs) (f ∷ put_on x v fs))
      by true h ih = refl
      by false h ih = ap (λ ls. line_of f ∷ ls) (ih h)

  pub put_new_line : (x : ℕ) (row : ImageRow S R) (v : R) (es : List (Entry S R)) → find x es ≡ None → line_put x v (leaf es) ≡ leaf (es ++ (put_unseen x row v ∷ []))
  put_new_line x row v [] h = refl
  put_new_line x row v (f ∷ fs) h = by (eqb x f.number) h (put_new_line x row v fs)
    where
      by : (t : Bool) → cond t (Some f) (find x fs) ≡ None → (find x fs ≡ None → line_put x v (leaf fs) ≡ leaf (fs ++ (put_unseen x row v ∷ []))) → cond t (record { number = f.number; look = (line_of f).look; put = Some v } ∷ leaf fs) (line_of f ∷ line_put x v (leaf fs)) ≡ line_of f ∷ leaf (fs ++ (put_unseen x row v ∷ []))
      by true h ih = absurd (some_none h)
      by false h ih = ap (λ ls. line_of f ∷ ls) (ih h)

  -- a noted look has its line
  pub leaf_push : (es : List (Entry S R)) (e : Entry S R) → leaf es ++ (line_of e ∷ []) ≡ leaf (es ++ (e ∷ []))
  leaf_push [] e = refl
  leaf_push (f ∷ fs) e = ap (λ ls. line_of f ∷ ls) (leaf_push fs e)

  pub look_line : (x : ℕ) (row : ImageRow S R) (es : List (Entry S R)) → find x es ≡ None → line_looked (has_line x (leaf es)) x (record { value = row.value; stamp = row.write }) (leaf es) ≡ leaf (es ++ (looked x row ∷ []))
  look_line x row es h =
      ap (λ b. line_looked b x (record { value = row.value; stamp = row.write }) (leaf es)) (no_line x es h) ∙ leaf_push es (looked x row)

  -- tuning leaves the lines as they are
  pub leaf_closed : (first : ℕ → Option S) (es : List (Entry S R)) → leaf (map (closed_by first) es) ≡ leaf es
  leaf_closed first [] = refl
  leaf_closed first (e ∷ es) = by (e.opened && is_some (first e.number)) (leaf_closed first es)
    where
      by : (t : Bool) → leaf (map (closed_by first) es) ≡ leaf es → leaf (cond t (closed e) e ∷ map (closed_by first) es) ≡ leaf (e ∷ es)
      by true h = ap (λ ls. line_of e ∷ ls) h
      by false h = ap (λ ls. line_of e ∷ ls) h

  -- a look of the leaf is a seen entry of the sheet
  pub record FromSeen (es : List (Entry S R)) (l : Look S R) : Type 0 where
    pub entry : Entry S R
    pub member : In entry es
    pub is_seen : entry.seen ≡ true
    pub is : l ≡ record { number = entry.number; saw = record { value = entry.saw; stamp = entry.noted } }

  pub look_from : (es : List (Entry S R)) (l : Look S R) → In l (looks_of (leaf es)) → FromSeen es l
  look_from [] l m = in_none m
  look_from (e ∷ es) l m = by e.seen refl m (look_from es l)
    where
      deeper : FromSeen es l → FromSeen (e ∷ es) l
      deeper h = record { entry = h.entry; member = there h.member; is_seen = h.is_seen; is = h.is }

      by : (t : Bool) → e.seen ≡ t → In l (look_first e.number (when t (record { value = e.saw; stamp = e.noted })) (looks_of (leaf es))) → (In l (looks_of (leaf es)) → FromSeen es l) → FromSeen (e ∷ es) l
      by true s m ih = ⊎_elim (λ f. record { entry = e; member = here; is_seen = s; is = f }) (λ k. deeper (ih k)) (in_cons m)
      by false s m ih = deeper (ih m)

  -- a put of the leaf is a put entry
  pub record FromPut (es : List (Entry S R)) (x : ℕ) : Type 0 where
    pub entry : Entry S R
    pub member : In entry es
    pub is_put : entry.put ≡ true
    pub is : x ≡ entry.number

  pub put_from : (es : List (Entry S R)) (x : ℕ) (v : R) → put_of x (puts_of (leaf es)) ≡ Some v → FromPut es x
  put_from [] x v h = absurd (some_none (sym h))
  put_from (e ∷ es) x v h = by e.put refl h (put_from es x v)
    where
      deeper : FromPut es x → FromPut (e ∷ es) x
      deeper k = record { entry = k.entry; member = there k.member; is_put = k.is_put; is = k.is }

      hit : (t : Bool) → eqb x e.number ≡ t → e.put ≡ true → cond t (Some e.wrote) (put_of x (puts_of (leaf es))) ≡ Some v → (put_of x (puts_of (leaf es)) ≡ Some v → FromPut es x) → FromPut (e ∷ es) x
      hit true q s h ih = record { entry = e; member = here; is_put = s; is = eqb-true x e.number q }
      hit false q s h ih = deeper (ih h)

      by : (t : Bool) → e.put ≡ t → put_of x (put_first e.number (when t e.wrote) (puts_of (leaf es))) ≡ Some v → (put_of x (puts_of (leaf es)) ≡ Some v → FromPut es x) → FromPut (e ∷ es) x
      by true s h ih = hit (eqb x e.number) refl s h ih
      by false s h ih = deeper (ih h)

  pub looked_if : (ls : List (Look S R)) (l : Look S R) → In l ls → looks_at l.number ls ≡ true
  looked_if [] l m = in_none m
  looked_if (k ∷ ks) l m =
      ⊎_elim (λ e. ap (λ (z : Look S R). eqb l.number z.number || looks_at l.number ks) (sym e) ∙ ap (λ b. b || looks_at l.number ks) (eq-eqb l.number l.number refl))
      (λ n. by (eqb l.number k.number) (looked_if ks l n)) (in_cons m)
    where
      by : (t : Bool) → looks_at l.number ks ≡ true → (t || looks_at l.number ks) ≡ true
      by true h = refl
      by false h = h

  -- a record that is not found stands nowhere on the sheet, so its entry may join
  not_found : (x : ℕ) (es : List (Entry S R)) → find x es ≡ None → (a : Entry S R) → In a es → a.number ≢ x
  not_found x [] h a m = in_none m
  not_found x (f ∷ fs) h a m = by (eqb x f.number) refl h (not_found x fs)
    where
      by : (t : Bool) → eqb x f.number ≡ t → cond t (Some f) (find x fs) ≡ None → (find x fs ≡ None → (a : Entry S R) → In a fs → a.number ≢ x) → a.number ≢ x
      by true e h ih = absurd (some_none h)
      by false e h ih = ⊎_elim (λ i q. eqb-false x f.number e (sym q ∙ ap (λ (z : Entry S R). z.number) i)) (λ n. ih h a n) (in_cons m)

  pub distinct_push : (es : List (Entry S R)) (e : Entry S R) → Distinct es → find e.number es ≡ None → Distinct (es ++ (e ∷ []))
  distinct_push es e d n = pairs_push (λ (a b : Entry S R). a.number ≢ b.number) es e d (not_found e.number es n)
