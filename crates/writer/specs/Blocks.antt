-- The looks and puts of a job's entries, in bytes.
use Rattle.std.specs.Prelude.{ℕ, cond, List, [], ◌∷◌, ◌++◌, map, length}
use Rattle.std.specs.List.{flat_map}
use Rattle.kinds.specs.Bytes.{be4}
use Rattle.kinds.specs.Forms.{Form}
use Rattle.kinds.specs.Stamps.{Order}
use Rattle.model.specs.declared.entry.Entry.{Entry}
use Rattle.law.specs.Daybook.{Look, line_of, looks_of, puts_of, accepted_job}
use Rattle.archive.specs.Journal.{look_bytes, put_bytes, block_bytes}

abbrev pub look_of : {S R : Type 0} → ℕ → S → R → Look S R
look_of x s v = record { number = x; saw = record { value = v; stamp = s } }

module _ {S R : Type 0} (o : Order S) (f : Form R) where
  -- the noted look of an entry, if it is seen, and its put, if it is put
  abbrev pub look_in : Entry S R → List ℕ
  look_in e = cond e.seen (look_bytes o f (look_of e.number e.noted e.saw)) []

  abbrev pub put_in_entry : Entry S R → List ℕ
  put_in_entry e = cond e.put (put_bytes o f (record { number = e.number; value = e.wrote })) []

  -- those of a job
  abbrev pub looks_in : List (Entry S R) → List ℕ
  looks_in es = flat_map (look_bytes o f) (looks_of (map line_of es))

  abbrev pub puts_in : List (Entry S R) → List ℕ
  puts_in es = flat_map (put_bytes o f) (puts_of (map line_of es))

module _ {S R : Type 0} where
  -- how many looks and how many puts some entries have
  abbrev pub look_count : List (Entry S R) → ℕ
  look_count es = length (looks_of (map line_of es))

  abbrev pub put_count : List (Entry S R) → ℕ
  put_count es = length (puts_of (map line_of es))

-- the first 16 bytes of a block
abbrev pub front_bytes : {S : Type 0} → Order S → S → ℕ → ℕ → ℕ → List ℕ
front_bytes o s ticket r p = o.form.written s ++ (be4 ticket ++ (r ∷ p ∷ 0 ∷ 0 ∷ []))

-- the block of the job that some entries make
abbrev pub block_in : {S R : Type 0} → Order S → Form R → S → ℕ → List (Entry S R) → List ℕ
block_in o f s ticket es = block_bytes o f (accepted_job s ticket (map line_of es))
