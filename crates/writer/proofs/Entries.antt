-- Looks and puts laid one after the other.
use Rattle.std.proofs.Common.{◌≡◌, ℕ, ◌+◌, ◌≤◌, Bool, true, false, cond, List, [], ◌∷◌, ◌++◌, map, length, Some, Option, sym, refl, ap, ◌∙◌, arith}
use Rattle.std.specs.Prelude.{count_by}
use Rattle.std.specs.List.{flat_map}
use Rattle.std.proofs.lemmas.List.Recursion.{is_count_by}
use Rattle.std.proofs.lemmas.List.Sums.{count_by-le-length}
use Rattle.std.proofs.lemmas.Bool.{le-leb}
use Rattle.std.proofs.lemmas.List.{length-append, append_assoc}
use Rattle.kinds.specs.Bytes.{be4}
use Rattle.kinds.specs.Forms.{Form, Formed}
use Rattle.kinds.specs.Stamps.{Order}
use Rattle.model.specs.declared.entry.Entry.{Entry}
use Rattle.law.specs.Daybook.{when, look_first, put_first, line_of, looks_of, puts_of}
use Rattle.archive.specs.Journal.{look_bytes, put_bytes}
use Rattle.archive.specs.Lengths.{block_length, length_listed}
use Rattle.writer.specs.Blocks.{look_count, put_count, front_bytes, block_in, look_in, put_in_entry, looks_in, puts_in}

module _ {S R : Type 0} (o : Order S) (f : Form R) where
  pub looks_first : (e : Entry S R) (es : List (Entry S R)) → looks_in o f (e ∷ es) ≡ look_in o f e ++ looks_in o f es
  looks_first e es = by e.seen
    where
      by : (b : Bool) → flat_map (look_bytes o f) (look_first e.number (when b (record { value = e.saw; stamp = e.noted })) (looks_of (map line_of es)))
          ≡ cond b (look_bytes o f (record { number = e.number; saw = record { value = e.saw; stamp = e.noted } })) [] ++ looks_in o f es
      by true = refl
      by false = refl

  pub puts_first : (e : Entry S R) (es : List (Entry S R)) → puts_in o f (e ∷ es) ≡ put_in_entry o f e ++ puts_in o f es
  puts_first e es = by e.put
    where
      by : (b : Bool) → flat_map (put_bytes o f) (put_first e.number (when b e.wrote) (puts_of (map line_of es)))
          ≡ cond b (put_bytes o f (record { number = e.number; value = e.wrote })) [] ++ puts_in o f es
      by true = refl
      by false = refl

-- those of some entries, laid one after the other
module _ {S R : Type 0} (o : Order S) (f : Form R) where
  pub looks_laid : (es : List (Entry S R)) → flat_map (look_in o f) es ≡ looks_in o f es
  looks_laid [] = refl
  looks_laid (e ∷ es) = ap (λ xs. look_in o f e ++ xs) (looks_laid es) ∙ sym (looks_first o f e es)

  pub puts_laid : (es : List (Entry S R)) → flat_map (put_in_entry o f) es ≡ puts_in o f es
  puts_laid [] = refl
  puts_laid (e ∷ es) = ap (λ xs. put_in_entry o f e ++ xs) (puts_laid es) ∙ sym (puts_first o f e es)

module _ {S R : Type 0} where
  look_more : (e : Entry S R) (es : List (Entry S R)) → look_count (e ∷ es) ≡ cond e.seen (1 + look_count es) (look_count es)
  look_more e es = by e.seen
    where
      by : (b : Bool) → length (look_first e.number (when b (record { value = e.saw; stamp = e.noted })) (looks_of (map line_of es))) ≡ cond b (1 + look_count es) (look_count es)
      by true = omega arith
      by false = refl

  put_more : (e : Entry S R) (es : List (Entry S R)) → put_count (e ∷ es) ≡ cond e.put (1 + put_count es) (put_count es)
  put_more e es = by e.put
    where
      by : (b : Bool) → length (put_first e.number (when b e.wrote) (puts_of (map line_of es))) ≡ cond b (1 + put_count es) (put_count es)
      by true = omega arith
      by false = refl

  -- the looks and the puts, counted by their flags
  pub looks_counted : (es : List (Entry S R)) → count_by (λ e. e.seen) es ≡ look_count es
  looks_counted es = sym (is_count_by look_count (λ e. e.seen) refl look_more es)

  pub puts_counted : (es : List (Entry S R)) → count_by (λ e. e.put) es ≡ put_count es
  puts_counted es = sym (is_count_by put_count (λ e. e.put) refl put_more es)

  -- there are no more of them than entries
  pub looks_few : (es : List (Entry S R)) → look_count es ≤ length es
  looks_few es = let l = count_by-le-length (λ e. e.seen) es in omega (arith, looks_counted es)

  pub puts_few : (es : List (Entry S R)) → put_count es ≤ length es
  puts_few es = let l = count_by-le-length (λ e. e.put) es in omega (arith, puts_counted es)

-- the length of a block of few looks and puts is listed
pub listed_some : (n : Option ℕ) (r p : ℕ) → r ≤ 16 → p ≤ 16 → n ≡ length_listed r p → n ≡ Some (block_length r p)
listed_some n r p h k e = e ∙ simp (le-leb r 16 h, le-leb p 16 k)

-- a block is its first 16 bytes, its looks and its puts
module _ {S R : Type 0} (o : Order S) (f : Form R) (s : S) (ticket : ℕ) (es : List (Entry S R)) where
  pub block_split : front_bytes o s ticket (look_count es) (put_count es) ++ (looks_in o f es ++ puts_in o f es) ≡ block_in o f s ticket es
  block_split = append_assoc (o.form.written s) (be4 ticket ++ (look_count es ∷ put_count es ∷ 0 ∷ 0 ∷ [])) (looks_in o f es ++ puts_in o f es)

  pub front_wide : Formed 8 o.form → (r p : ℕ) → length (front_bytes o s ticket r p) ≡ 16
  front_wide laws r p = let w = laws.wide s in let a = length-append (o.form.written s) (be4 ticket ++ (r ∷ p ∷ 0 ∷ 0 ∷ [])) in omega arith

  pub block_long : Formed 8 o.form → length (block_in o f s ticket es) ≡ 16 + length (looks_in o f es) + length (puts_in o f es)
  block_long laws =
      let e = ap length block_split in
      let w = front_wide laws (look_count es) (put_count es) in
      let a = length-append (front_bytes o s ticket (look_count es) (put_count es)) (looks_in o f es ++ puts_in o f es) in
      let b = length-append (looks_in o f es) (puts_in o f es) in
      omega arith
