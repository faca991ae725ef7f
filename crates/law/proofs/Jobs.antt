-- What a job keeps, and that look, put and tune keep it.
use Rattle.std.proofs.Common.{◌≡◌, ℕ, suc, ◌<◌, ◌≤◌, Bool, true, false, cond, ◌&&◌, eqb, ◌⊎◌, List, [], ◌∷◌, map, length, is_some, Some, None, Option, sym, refl, ap, ◌∙◌, ⊎_elim}
use Rattle.std.specs.List.{AllByRecursion}
use Rattle.std.proofs.ByRecursion.{All-weaker}
use Rattle.kinds.specs.Stamps.{Order, Ordered, Kind}
use Rattle.model.specs.declared.entry.Entry.{Entry}
use Rattle.model.specs.declared.image.ImageRow.{ImageRow}
use Rattle.model.specs.declared.refusal.Refusal.{Refusal}
use Rattle.model.specs.Refusals.{refused_if}
use Rattle.model.specs.Rows.{Stood}
use Rattle.model.specs.Sheets.{put_on, with_value, closed}
use Rattle.station.specs.Station.{Work, is_shut, closed_by}
use Rattle.law.specs.Daybook.{AcceptedJob}
use Rattle.law.proofs.StampOrder.{some_none, Le, le_trans}
use Rattle.law.proofs.Members.{In, in_none, in_cons, here, there}
use Rattle.law.proofs.Views.{Distinct}
use Rattle.law.proofs.Plays.{Origin}
use Rattle.law.proofs.History.{Passed}

pub refused_none : (b : Bool) (r : Refusal) (rest : Option Refusal) → refused_if b r rest ≡ None → (b ≡ false) × (rest ≡ None)
refused_none true r rest e = absurd (some_none e)
refused_none false r rest e = (refl, e)

abbrev pub row_stood : {S R : Type 0} → ImageRow S R → Stood S R
row_stood row = record { value = row.value; stamp = row.write }

-- a closed entry: the writes of its record passed from what it noted to the upper bound
pub record Closed {S R : Type 0} (o : Order S) (jobs : List (AcceptedJob S R)) (top : S) (upper : Option S) (x : ℕ) (noted : S) : Type 0 where
  pub bound : S
  pub is : upper ≡ Some bound
  pub passed : Passed o jobs x top noted bound

-- a noted look: it comes from the opening or a job, is not after the lower bound, and while open is what the image shows
pub record SeenOk {S R : Type 0} (o : Order S) (values : List R) (jobs : List (AcceptedJob S R)) (top : S) (shown : Option (Stood S R)) (lower : S) (upper : Option S) (x : ℕ) (saw : Stood S R) (opens : Bool) : Type 0 where
  pub origin : Origin o values jobs x saw
  pub low : Le o saw.stamp lower
  pub stays : opens ≡ true → shown ≡ Some saw
  pub shuts : opens ≡ false → Closed o jobs top upper x saw.stamp

module _ {S R : Type 0} (o : Order S) (values : List R) (jobs : List (AcceptedJob S R)) (top : ℕ → S) where
  abbrev pub EntryOk : (ℕ → Option (Stood S R)) → S → Option S → Entry S R → Type 0
  EntryOk shown lower upper e =
      e.seen ≡ true → SeenOk o values jobs (top e.number) (shown e.number) lower upper e.number (record { value = e.saw; stamp = e.noted }) e.opened

-- a job with an entry has a place while it is live
abbrev pub HasPlace : {S R : Type 0} → Kind S → Work S R → Type 0
HasPlace k w =
    ((w.entries ≡ []) × (w.lower ≡ k.order.least) × (w.upper ≡ None)) ⊎ ((is_shut w.standing ≡ true) ⊎ (is_some (k.pick w.lower w.upper) ≡ true))

-- shown n x: what image n shows at x, where image 0 is the opening
pub record JobOk {S R : Type 0} (k : Kind S) (values : List R) (jobs : List (AcceptedJob S R)) (top : ℕ → S) (shown : ℕ → ℕ → Option (Stood S R)) (cycle : ℕ) (w : Work S R) : Type 0 where
  pub stands : w.image ≤ cycle
  pub entries : AllByRecursion (EntryOk k.order values jobs top (shown w.image) w.lower w.upper) w.entries
  pub distinct : Distinct w.entries
  pub inside : AllByRecursion (λ (e : Entry S R). e.number < length values) w.entries
  pub few : length w.entries ≤ 16
  pub place : HasPlace k w

module _ {S R : Type 0} (o : Order S) (laws : Ordered o) (values : List R) (jobs : List (AcceptedJob S R)) (top : ℕ → S) where
  pub sheet_lower : (shown : ℕ → Option (Stood S R)) (lower lower' : S) (upper : Option S) → Le o lower lower' → (es : List (Entry S R)) → AllByRecursion (EntryOk o values jobs top shown lower upper) es → AllByRecursion (EntryOk o values jobs top shown lower' upper) es
  sheet_lower shown lower lower' upper l es h =
      All-weaker (EntryOk o values jobs top shown lower upper) (EntryOk o values jobs top shown lower' upper)
      (λ e q s. let k = q s in record { origin = k.origin; low = le_trans o laws _ lower lower' k.low l; stays = k.stays; shuts = k.shuts }) es h

  -- a put changes no noted look
  pub sheet-put_on : (shown : ℕ → Option (Stood S R)) (lower : S) (upper : Option S) (x : ℕ) (v : R) (es : List (Entry S R)) → AllByRecursion (EntryOk o values jobs top shown lower upper) es → AllByRecursion (EntryOk o values jobs top shown lower upper) (put_on x v es)
  sheet-put_on shown lower upper x v [] h = tt
  sheet-put_on shown lower upper x v (e ∷ es) h = by (eqb x e.number) (sheet-put_on shown lower upper x v es h.1)
    where
      by : (t : Bool) → AllByRecursion (EntryOk o values jobs top shown lower upper) (put_on x v es) → AllByRecursion (EntryOk o values jobs top shown lower upper) (cond t (with_value v e ∷ es) (e ∷ put_on x v es))
      by true k = (h.0, h.1)
      by false k = (h.0, k)

-- a put keeps the records of a sheet
module _ {S R : Type 0} (P : ℕ → Type 0) where
  pub numbers-put_on : (x : ℕ) (v : R) (es : List (Entry S R)) → AllByRecursion (λ (e : Entry S R). P e.number) es → AllByRecursion (λ (e : Entry S R). P e.number) (put_on x v es)
  numbers-put_on x v [] h = tt
  numbers-put_on x v (e ∷ es) h = by (eqb x e.number) (numbers-put_on x v es h.1)
    where
      by : (t : Bool) → AllByRecursion (λ (e : Entry S R). P e.number) (put_on x v es) → AllByRecursion (λ (e : Entry S R). P e.number) (cond t (with_value v e ∷ es) (e ∷ put_on x v es))
      by true k = (h.0, h.1)
      by false k = (h.0, k)

module _ {S R : Type 0} where
  pub length-put_on : (x : ℕ) (v : R) (es : List (Entry S R)) → length (put_on x v es) ≡ length es
  length-put_on x v [] = refl
  length-put_on x v (e ∷ es) = by (eqb x e.number) (length-put_on x v es)
    where
      by : (t : Bool) → length (put_on x v es) ≡ length es → length (cond t (with_value v e ∷ es) (e ∷ put_on x v es)) ≡ length (e ∷ es)
      by true h = refl
      by false h = ap suc h

  put_on_from : (x : ℕ) (v : R) (es : List (Entry S R)) (a : Entry S R) → In a (put_on x v es) → (b : Entry S R) × In b es × (a.number ≡ b.number)
  put_on_from x v [] a m = in_none m
  put_on_from x v (e ∷ es) a m = by (eqb x e.number) m (put_on_from x v es a)
    where
      by : (t : Bool) → In a (cond t (with_value v e ∷ es) (e ∷ put_on x v es)) → (In a (put_on x v es) → (b : Entry S R) × In b es × (a.number ≡ b.number)) → (b : Entry S R) × In b (e ∷ es) × (a.number ≡ b.number)
      by true m ih = ⊎_elim (λ q. (e, here, ap (λ (z : Entry S R). z.number) q)) (λ n. (a, there n, refl)) (in_cons m)
      by false m ih = ⊎_elim (λ q. (e, here, ap (λ (z : Entry S R). z.number) q)) (λ n. let h = ih n in (h.0, there h.1, h.2)) (in_cons m)

  pub put_on_distinct : (x : ℕ) (v : R) (es : List (Entry S R)) → Distinct es → Distinct (put_on x v es)
  put_on_distinct x v [] h = tt
  put_on_distinct x v (e ∷ es) h = by (eqb x e.number) (put_on_distinct x v es h.1)
    where
      by : (t : Bool) → Distinct (put_on x v es) → Distinct (cond t (with_value v e ∷ es) (e ∷ put_on x v es))
      by true k = (h.0, h.1)
      by false k = ((λ a m q. let b = put_on_from x v es a m in h.0 b.0 b.1 (q ∙ b.2)), k)

  pub closed_length : (first : ℕ → Option S) (es : List (Entry S R)) → length (map (closed_by first) es) ≡ length es
  closed_length first [] = refl
  closed_length first (e ∷ es) = ap suc (closed_length first es)

  pub closed_number : (first : ℕ → Option S) (e : Entry S R) → (closed_by first e).number ≡ e.number
  closed_number first e = by (e.opened && is_some (first e.number))
    where
      by : (t : Bool) → (cond t (closed e) e).number ≡ e.number
      by true = refl
      by false = refl

  closed_from : (first : ℕ → Option S) (es : List (Entry S R)) (a : Entry S R) → In a (map (closed_by first) es) → (b : Entry S R) × In b es × (a.number ≡ b.number)
  closed_from first [] a m = in_none m
  closed_from first (e ∷ es) a m =
      ⊎_elim (λ q. (e, here, ap (λ (z : Entry S R). z.number) q ∙ closed_number first e)) (λ n. let h = closed_from first es a n in (h.0, there h.1, h.2)) (in_cons m)

  pub closed_distinct : (first : ℕ → Option S) (es : List (Entry S R)) → Distinct es → Distinct (map (closed_by first) es)
  closed_distinct first [] h = tt
  closed_distinct first (e ∷ es) h =
      ((λ a m q. let b = closed_from first es a m in h.0 b.0 b.1 (sym (closed_number first e) ∙ q ∙ b.2)), closed_distinct first es h.1)
