-- Rows, first writes and image rows by record: what a table shows at each place.
use Rattle.std.proofs.Common.{◌≡◌, ℕ, zero, suc, ◌<◌, Bool, true, false, cond, ◌&&◌, ◌||◌, eqb, leb, ◌≢◌, List, [], ◌∷◌, length, take, set, replicate, Some, None, Option, sym, refl, ap, ◌∙◌, le_of_suc-le-suc, not-suc-le-zero, suc-ne-zero, arith, length-set}
use native.Mathlib.Nat.{suc_inj}
use lib.Dec.{eqb-zero-suc, eqb-suc-zero, eqb-suc-suc}
use Rattle.std.specs.Option.{option_map}
use Rattle.std.specs.List.{slice_get}
use Rattle.std.proofs.lemmas.Bool.{eqb-true, ne_eqb}
use Rattle.kinds.specs.Stamps.{Order}
use Rattle.model.specs.declared.entry.Entry.{Entry}
use Rattle.model.specs.declared.row.Row.{Row}
use Rattle.model.specs.declared.image.ImageRow.{ImageRow}
use Rattle.model.specs.Rows.{by_count, write_of, older, stood, with_put, founded_row, shown_row}
use Rattle.registrar.specs.Deciding.{look_noted, put_entered, row_after, row_written, rows_after, first_kept, first_written, firsts_after}
use Rattle.registrar.specs.Registry.{founded_rows, shown_rows}
use Rattle.law.specs.Daybook.{when, look_first, put_first, looks_of, puts_of}
use Rattle.law.specs.Account.{put_of}
use Rattle.law.proofs.Members.{In, here, there}
use Rattle.law.proofs.Views.{leaf, Distinct, looks_at, accepted_row, first_by}

-- A row after a put: its value, its stamps and its read stamp.
abbrev by_tests : {A : Type 0} → Bool → Bool → Bool → A → A → A → A → A
by_tests x y z a b c d = cond x a (cond y b (cond z c d))

pub all_counts : {A : Type 0} (P : A → Type 0) (n : ℕ) (a b c d : A) → P a → P b → P c → P d → P (by_count n a b c d)
all_counts P n a b c d p q r s = go (leb n 1) (eqb n 2) (eqb n 3)
  where
    go : (x y z : Bool) → P (by_tests x y z a b c d)
    go true y z = p
    go false true z = q
    go false false true = r
    go false false false = s

module _ {S R : Type 0} (v : R) (s : S) (r : Row S R) where
  pub write_put : write_of (with_put v s r) ≡ s
  write_put = all_counts (λ (n : Row S R). write_of n ≡ s) r.count _ _ _ _ refl refl refl refl

  pub value_put : (with_put v s r).value ≡ v
  value_put = all_counts (λ (n : Row S R). n.value ≡ v) r.count _ _ _ _ refl refl refl refl

  pub read_put : (with_put v s r).read ≡ r.read
  read_put = all_counts (λ (n : Row S R). n.read ≡ r.read) r.count _ _ _ _ refl refl refl refl

  pub older_put : older (with_put v s r) ≡ take 3 (write_of r ∷ older r)
  older_put = go (leb r.count 1) (eqb r.count 2) (eqb r.count 3)
    where
      go : (x y z : Bool) → older (by_tests x y z
          (record { value = v; read = r.read; count = 2; one = r.one; two = s; three = r.three; four = r.four })
          (record { value = v; read = r.read; count = 3; one = r.one; two = r.two; three = s; four = r.four })
          (record { value = v; read = r.read; count = 4; one = r.one; two = r.two; three = r.three; four = s })
          (record { value = v; read = r.read; count = 4; one = r.two; two = r.three; three = r.four; four = s }))
          ≡ take 3 (by_tests x y z r.one r.two r.three r.four
          ∷ by_tests x y z [] (r.one ∷ []) (r.two ∷ r.one ∷ []) (r.three ∷ r.two ∷ r.one ∷ []))
      go true y z = refl
      go false true z = refl
      go false false true = refl
      go false false false = refl

-- What stands at a place of a table: inside it, after a write, and in a table of one content.
module _ {A : Type 0} where
  pub nth_some : (xs : List A) (x : ℕ) → x < length xs → (a : A) × (slice_get xs x ≡ Some a)
  nth_some [] x h = absurd (not-suc-le-zero h)
  nth_some (a ∷ xs) zero h = (a, refl)
  nth_some (a ∷ xs) (suc x) h = nth_some xs x (le_of_suc-le-suc h)

  pub nth-set : (xs : List A) (i x : ℕ) (v : A) → slice_get (set xs i v) x ≡ cond (eqb x i) (option_map (λ _. v) (slice_get xs x)) (slice_get xs x)
  nth-set [] i x v = go (eqb x i)
    where
      go : (t : Bool) → ◌≡◌ {A = Option A} None (cond t None None)
      go true = refl
      go false = refl
  nth-set (y ∷ ys) zero zero v = refl
  nth-set (y ∷ ys) zero (suc x) v = simp eqb-suc-zero
  nth-set (y ∷ ys) (suc i) zero v = simp eqb-zero-suc
  nth-set (y ∷ ys) (suc i) (suc x) v = rw eqb-suc-suc (nth-set ys i x v)

  pub nth-replicate : (n x : ℕ) (a : A) → x < n → slice_get (replicate n a) x ≡ Some a
  nth-replicate zero x a h = absurd (not-suc-le-zero h)
  nth-replicate (suc n) zero a h = refl
  nth-replicate (suc n) (suc x) a h = nth-replicate n x a (le_of_suc-le-suc h)

  pub nth_of_replicate : (n x : ℕ) (a b : A) → slice_get (replicate n a) x ≡ Some b → b ≡ a
  nth_of_replicate zero x a b e = cc
  nth_of_replicate (suc n) zero a b e = cc
  nth_of_replicate (suc n) (suc x) a b e = nth_of_replicate n x a b e

-- A line of a leaf, told apart by the record: what the job puts there and whether it looks.
module _ {S R : Type 0} (x : ℕ) (e : Entry S R) (es : List (Entry S R)) where
  put_line : put_of x (puts_of (leaf (e ∷ es))) ≡ cond (eqb x e.number && e.put) (Some e.wrote) (put_of x (puts_of (leaf es)))
  put_line = go e.put (eqb x e.number) refl
    where
      go : (p t : Bool) → eqb x e.number ≡ t → put_of x (put_first e.number (when p e.wrote) (puts_of (leaf es))) ≡ cond (t && p) (Some e.wrote) (put_of x (puts_of (leaf es)))
      go true true q = simp q
      go true false q = simp q
      go false true q = refl
      go false false q = refl

  look_line : looks_at x (looks_of (leaf (e ∷ es))) ≡ ((eqb x e.number && e.seen) || looks_at x (looks_of (leaf es)))
  look_line = go e.seen (eqb x e.number) refl
    where
      go : (p t : Bool) → eqb x e.number ≡ t → looks_at x (look_first e.number (when p (record { value = e.saw; stamp = e.noted })) (looks_of (leaf es))) ≡ ((t && p) || looks_at x (looks_of (leaf es)))
      go true true q = simp q
      go true false q = simp q
      go false true q = refl
      go false false q = refl

-- A record without an entry is neither put nor looked at.
module _ {S R : Type 0} (x : ℕ) where
  pub no_put : (es : List (Entry S R)) → ((a : Entry S R) → In a es → x ≢ a.number) → put_of x (puts_of (leaf es)) ≡ None
  no_put [] h = refl
  no_put (e ∷ es) h = put_line x e es ∙ simp (ne_eqb x e.number (h e here)) (no_put es (λ a m. h a (there m)))

  pub no_look : (es : List (Entry S R)) → ((a : Entry S R) → In a es → x ≢ a.number) → looks_at x (looks_of (leaf es)) ≡ false
  no_look [] h = refl
  no_look (e ∷ es) h = look_line x e es ∙ simp (ne_eqb x e.number (h e here)) (no_look es (λ a m. h a (there m)))

mapped_id : {A : Type 0} (m : Option A) → m ≡ option_map (λ a. a) m
mapped_id None = refl
mapped_id (Some a) = refl

-- Acceptance entry by entry is acceptance row by row.
module _ {S R : Type 0} (o : Order S) (s : S) where
  row_written_at : (e : Entry S R) (rows : List (Row S R)) (x : ℕ) → slice_get (row_written o s e rows (slice_get rows e.number)) x ≡ cond (eqb x e.number) (option_map (row_after o s e) (slice_get rows x)) (slice_get rows x)
  row_written_at e rows x = go (slice_get rows e.number) refl (eqb x e.number) refl
    where
      go : (m : Option (Row S R)) → slice_get rows e.number ≡ m → (t : Bool) → eqb x e.number ≡ t → slice_get (row_written o s e rows m) x ≡ cond t (option_map (row_after o s e) (slice_get rows x)) (slice_get rows x)
      go None q true b = let n : slice_get rows x ≡ None = ap (slice_get rows) (eqb-true x e.number b) ∙ q in simp n
      go None q false b = refl
      go (Some r) q true b = let n : slice_get rows x ≡ Some r = ap (slice_get rows) (eqb-true x e.number b) ∙ q in nth-set rows e.number x (row_after o s e r) ∙ simp (b, n)
      go (Some r) q false b = nth-set rows e.number x (row_after o s e r) ∙ simp b

  own_row : (p q : Bool) (v : R) (m : Option (Row S R)) → option_map (accepted_row o s None false) (option_map (λ r. put_entered o s p v (look_noted o s q r)) m) ≡ option_map (accepted_row o s (cond p (Some v) None) (q || false)) m
  own_row p q v None = refl
  own_row true true v (Some r) = refl
  own_row true false v (Some r) = refl
  own_row false true v (Some r) = refl
  own_row false false v (Some r) = refl

  pub rows_after_at : (es : List (Entry S R)) → Distinct es → (rows : List (Row S R)) (x : ℕ) → slice_get (rows_after o s es rows) x ≡ option_map (accepted_row o s (put_of x (puts_of (leaf es))) (looks_at x (looks_of (leaf es)))) (slice_get rows x)
  rows_after_at [] d rows x = mapped_id (slice_get rows x)
  rows_after_at (e ∷ es) d rows x =
      rows_after_at es d.1 (row_written o s e rows (slice_get rows e.number)) x ∙ rw (row_written_at e rows x, put_line x e es, look_line x e es) (go (eqb x e.number) refl)
    where
      go : (t : Bool) → eqb x e.number ≡ t → option_map (accepted_row o s (put_of x (puts_of (leaf es))) (looks_at x (looks_of (leaf es)))) (cond t (option_map (row_after o s e) (slice_get rows x)) (slice_get rows x))
          ≡ option_map (accepted_row o s (cond (t && e.put) (Some e.wrote) (put_of x (puts_of (leaf es)))) ((t && e.seen) || looks_at x (looks_of (leaf es)))) (slice_get rows x)
      go true b =
          let apart : (a : Entry S R) → In a es → x ≢ a.number = λ a m i. d.0 a m (sym (eqb-true x e.number b) ∙ i) in
          rw (no_put x es apart, no_look x es apart) (own_row e.put e.seen e.wrote (slice_get rows x))
      go false b = refl

  length-row_written : (e : Entry S R) (rows : List (Row S R)) (m : Option (Row S R)) → length (row_written o s e rows m) ≡ length rows
  length-row_written e rows None = refl
  length-row_written e rows (Some r) = length-set rows e.number (row_after o s e r)

  pub length-rows_after : (es : List (Entry S R)) (rows : List (Row S R)) → length (rows_after o s es rows) ≡ length rows
  length-rows_after [] rows = refl
  length-rows_after (e ∷ es) rows = length-rows_after es (row_written o s e rows (slice_get rows e.number)) ∙ length-row_written e rows (slice_get rows e.number)

-- The same of first writes.
module _ {S R : Type 0} (s : S) where
  first_written_at : (e : Entry S R) (firsts : List (Option S)) (x : ℕ) → slice_get (first_written s e firsts (slice_get firsts e.number)) x ≡ cond (eqb x e.number && e.put) (option_map (first_kept s) (slice_get firsts x)) (slice_get firsts x)
  first_written_at e firsts x = go (slice_get firsts e.number) refl (eqb x e.number) refl
    where
      none : slice_get firsts x ≡ None → (p : Bool) → slice_get firsts x ≡ cond p (option_map (first_kept s) (slice_get firsts x)) (slice_get firsts x)
      none n true = simp n
      none n false = refl

      there_is : (f : Option S) → slice_get firsts x ≡ Some f → eqb x e.number ≡ true → (p : Bool) → slice_get (cond p (set firsts e.number (first_kept s f)) firsts) x ≡ cond p (option_map (first_kept s) (slice_get firsts x)) (slice_get firsts x)
      there_is f n b true = nth-set firsts e.number x (first_kept s f) ∙ simp (b, n)
      there_is f n b false = refl

      apart : (f : Option S) → eqb x e.number ≡ false → (p : Bool) → slice_get (cond p (set firsts e.number (first_kept s f)) firsts) x ≡ slice_get firsts x
      apart f b true = nth-set firsts e.number x (first_kept s f) ∙ simp b
      apart f b false = refl

      go : (m : Option (Option S)) → slice_get firsts e.number ≡ m → (t : Bool) → eqb x e.number ≡ t → slice_get (first_written s e firsts m) x ≡ cond (t && e.put) (option_map (first_kept s) (slice_get firsts x)) (slice_get firsts x)
      go None q true b = none (ap (slice_get firsts) (eqb-true x e.number b) ∙ q) e.put
      go None q false b = refl
      go (Some f) q true b = there_is f (ap (slice_get firsts) (eqb-true x e.number b) ∙ q) b e.put
      go (Some f) q false b = apart f b e.put

  own_first : (p : Bool) (v : R) (m : Option (Option S)) → option_map (first_by {R = R} s None) (cond p (option_map (first_kept s) m) m) ≡ option_map (first_by s (cond p (Some v) None)) m
  own_first true v None = refl
  own_first true v (Some f) = refl
  own_first false v None = refl
  own_first false v (Some f) = refl

  pub firsts_after_at : (es : List (Entry S R)) → Distinct es → (firsts : List (Option S)) (x : ℕ) → slice_get (firsts_after s es firsts) x ≡ option_map (first_by s (put_of x (puts_of (leaf es)))) (slice_get firsts x)
  firsts_after_at [] d firsts x = mapped_id (slice_get firsts x)
  firsts_after_at (e ∷ es) d firsts x =
      firsts_after_at es d.1 (first_written s e firsts (slice_get firsts e.number)) x ∙ rw (first_written_at e firsts x, put_line x e es) (go (eqb x e.number) refl)
    where
      go : (t : Bool) → eqb x e.number ≡ t → option_map (first_by s (put_of x (puts_of (leaf es)))) (cond (t && e.put) (option_map (first_kept s) (slice_get firsts x)) (slice_get firsts x))
          ≡ option_map (first_by s (cond (t && e.put) (Some e.wrote) (put_of x (puts_of (leaf es))))) (slice_get firsts x)
      go true b = rw (no_put x es (λ a m i. d.0 a m (sym (eqb-true x e.number b) ∙ i))) (own_first e.put e.wrote (slice_get firsts x))
      go false b = refl

  length-first_written : (e : Entry S R) (firsts : List (Option S)) (m : Option (Option S)) → length (first_written s e firsts m) ≡ length firsts
  length-first_written e firsts None = refl
  length-first_written e firsts (Some f) = go e.put
    where
      go : (p : Bool) → length (cond p (set firsts e.number (first_kept s f)) firsts) ≡ length firsts
      go true = length-set firsts e.number (first_kept s f)
      go false = refl

  pub length-firsts_after : (es : List (Entry S R)) (firsts : List (Option S)) → length (firsts_after s es firsts) ≡ length firsts
  length-firsts_after [] firsts = refl
  length-firsts_after (e ∷ es) firsts = length-firsts_after es (first_written s e firsts (slice_get firsts e.number)) ∙ length-first_written e firsts (slice_get firsts e.number)

-- What an image shows of a record: its row and its first write.
module _ {S R : Type 0} where
  pub record ShownAt (rows : List (Row S R)) (firsts : List (Option S)) (x : ℕ) (i : ImageRow S R) : Type 0 where
    pub row : Row S R
    pub first : Option S
    pub row_there : slice_get rows x ≡ Some row
    pub first_there : slice_get firsts x ≡ Some first
    pub shows : i ≡ shown_row row first

  pub length-shown : (rows : List (Row S R)) (firsts : List (Option S)) → length rows ≡ length firsts → length (shown_rows rows firsts) ≡ length rows
  length-shown [] firsts h = refl
  length-shown (r ∷ rows) [] h = absurd (suc-ne-zero (length rows) h)
  length-shown (r ∷ rows) (f ∷ firsts) h = ap suc (length-shown rows firsts (suc_inj h))

  pub shown_there : (rows : List (Row S R)) (firsts : List (Option S)) (x : ℕ) (r : Row S R) (f : Option S) → slice_get rows x ≡ Some r → slice_get firsts x ≡ Some f → slice_get (shown_rows rows firsts) x ≡ Some (shown_row r f)
  shown_there [] firsts x r f p q = cc
  shown_there (a ∷ rows) [] x r f p q = cc
  shown_there (a ∷ rows) (b ∷ firsts) zero r f p q = let u : a ≡ r = cc in let v : b ≡ f = cc in cc
  shown_there (a ∷ rows) (b ∷ firsts) (suc x) r f p q = shown_there rows firsts x r f p q

  pub shown_from : (rows : List (Row S R)) (firsts : List (Option S)) (x : ℕ) (i : ImageRow S R) → slice_get (shown_rows rows firsts) x ≡ Some i → ShownAt rows firsts x i
  shown_from [] firsts x i h = let z : ◌≡◌ {A = ℕ} 0 1 = cc in absurd (omega arith)
  shown_from (a ∷ rows) [] x i h = let z : ◌≡◌ {A = ℕ} 0 1 = cc in absurd (omega arith)
  shown_from (a ∷ rows) (b ∷ firsts) zero i h = record { row = a; first = b; row_there = refl; first_there = refl; shows = cc }
  shown_from (a ∷ rows) (b ∷ firsts) (suc x) i h =
      let k = shown_from rows firsts x i h in record { row = k.row; first = k.first; row_there = k.row_there; first_there = k.first_there; shows = k.shows }

-- The rows at founding: the opening values under the least stamp.
module _ {S R : Type 0} (o : Order S) where
  pub record FoundedAt (values : List R) (x : ℕ) (r : Row S R) : Type 0 where
    pub value : R
    pub old : Row S R
    pub value_there : slice_get values x ≡ Some value
    pub is : r ≡ founded_row o value old

  pub length-founded : (values : List R) (rows : List (Row S R)) → length values ≡ length rows → length (founded_rows o values rows) ≡ length values
  length-founded [] rows h = refl
  length-founded (v ∷ vs) [] h = absurd (suc-ne-zero (length vs) h)
  length-founded (v ∷ vs) (r ∷ rows) h = ap suc (length-founded vs rows (suc_inj h))

  pub founded_from : (values : List R) (rows : List (Row S R)) (x : ℕ) (r : Row S R) → slice_get (founded_rows o values rows) x ≡ Some r → FoundedAt values x r
  founded_from [] rows x r h = let z : ◌≡◌ {A = ℕ} 0 1 = cc in absurd (omega arith)
  founded_from (v ∷ vs) [] x r h = let z : ◌≡◌ {A = ℕ} 0 1 = cc in absurd (omega arith)
  founded_from (v ∷ vs) (a ∷ rows) zero r h = record { value = v; old = a; value_there = refl; is = cc }
  founded_from (v ∷ vs) (a ∷ rows) (suc x) r h =
      let k = founded_from vs rows x r h in record { value = k.value; old = k.old; value_there = k.value_there; is = k.is }

  pub founded_none : (values : List R) (rows : List (Row S R)) (x : ℕ) → slice_get values x ≡ None → slice_get (founded_rows o values rows) x ≡ None
  founded_none [] rows x h = refl
  founded_none (v ∷ vs) [] x h = refl
  founded_none (v ∷ vs) (a ∷ rows) zero h = cc
  founded_none (v ∷ vs) (a ∷ rows) (suc x) h = founded_none vs rows x h

  pub founded_stands : (values : List R) (rows : List (Row S R)) (x : ℕ) → length values ≡ length rows → option_map stood (slice_get (founded_rows o values rows) x) ≡ option_map (λ v. record { value = v; stamp = o.least }) (slice_get values x)
  founded_stands [] rows x h = refl
  founded_stands (v ∷ vs) [] x h = absurd (suc-ne-zero (length vs) h)
  founded_stands (v ∷ vs) (a ∷ rows) zero h = refl
  founded_stands (v ∷ vs) (a ∷ rows) (suc x) h = founded_stands vs rows x (suc_inj h)
