-- The whole archive: how long it is, and what a call answers and leaves.
use Rattle.std.proofs.Common.{◌≡◌, ℕ, ◌+◌, ◌*◌, ◌<◌, ◌≤◌, Bool, true, false, cond, List, ◌∷◌, ◌++◌, map, length, take, Ok, Err, sym, refl, ap, ◌∙◌, mul-suc, arith, length-append}
use Rattle.std.specs.List.{flat_map}
use Rattle.std.proofs.lemmas.Bool.{le-leb, lt-leb}
use Rattle.std.proofs.lemmas.List.{length-map, length-take}
use Rattle.std.proofs.lemmas.List.Folds.{flat_map-map}
use Rattle.std.proofs.lemmas.Simd.{map-map}
use Rattle.kinds.specs.Forms.{Formed}
use Rattle.kinds.specs.Stamps.{Order}
use Rattle.kinds.specs.Values.{RecordKind}
use Rattle.model.specs.declared.entry.Entry.{Entry}
use Rattle.model.specs.Tables.{laid}
use Rattle.registrar.specs.declared.journal.Head.{Head}
use Rattle.registrar.specs.Registry.{Registry, registry_sized}
use Rattle.law.specs.Daybook.{job_at}
use Rattle.law.proofs.Sizes.{sizes}
use Rattle.archive.specs.Heading.{heading_bytes}
use Rattle.archive.specs.Directory.{pairs_bytes}
use Rattle.archive.specs.Values.{values_bytes}
use Rattle.archive.specs.Journal.{block_bytes, block_lengths, archive_bytes}
use Rattle.archive.proofs.Forth.{values_length}
use Rattle.archive.proofs.OneForm.{pairs_long}
use Rattle.writer.specs.declared.unwritten.Unwritten.{Unwritten}
use Rattle.writer.specs.declared.unwritten.Unwritten.TheVariants.{WrongTables, SpaceShort}
use Rattle.writer.specs.Jobs.{blocks_of, lengths_of, whole_of}
use Rattle.writer.specs.Written.{Writing, writing_as, laid_down, archive_of, archive_size, written}
use Rattle.writer.proofs.Heads.{lengths_long}

module _ {S R : Type 0} (o : Order S) (k : RecordKind R) (values : List R) (lines : List (Entry S R)) (hs : List (Head S)) where
  -- the archive of a journal's heads is that of its jobs
  whole_same : whole_of o k values lines hs ≡ archive_bytes o k values (map (job_at lines) hs)
  whole_same =
      let n : length hs ≡ length (map (job_at lines) hs) = sym (length-map hs (job_at lines)) in
      let l : lengths_of o k.form lines hs ≡ block_lengths o k.form (map (job_at lines) hs) = sym (map-map (λ j. length (block_bytes o k.form j)) (job_at lines) hs) in
      let b : blocks_of o k.form lines hs ≡ flat_map (block_bytes o k.form) (map (job_at lines) hs) = sym (flat_map-map (block_bytes o k.form) (job_at lines) hs) in
      (λ i. heading_bytes o.number k.number (length values) (n i) ++ (pairs_bytes (20 + 8 * n i) (12 * length values ∷ l i) ++ (values_bytes k.form values ++ b i)))

  pub directory_long : (start : ℕ) → length (pairs_bytes start (12 * length values ∷ lengths_of o k.form lines hs)) ≡ 8 + 8 * length hs
  directory_long start =
      let p = pairs_long start (12 * length values ∷ lengths_of o k.form lines hs) in
      let m = mul-suc 8 (length (lengths_of o k.form lines hs)) in
      let l = lengths_long o k.form lines hs in
      omega arith

  pub whole_long : Formed 12 k.form → length (whole_of o k values lines hs) ≡ 20 + 8 * length hs + 12 * length values + length (blocks_of o k.form lines hs)
  whole_long formed =
      let d = directory_long (20 + 8 * length hs) in
      let v = values_length k.form formed values in
      let a = length-append (pairs_bytes (20 + 8 * length hs) (12 * length values ∷ lengths_of o k.form lines hs)) (values_bytes k.form values ++ blocks_of o k.form lines hs) in
      let b = length-append (values_bytes k.form values) (blocks_of o k.form lines hs) in
      omega arith

-- what a call answers and leaves, by the test on the tables and by the archive
module _ (archive : List ℕ) where
  sized_of : (b : Bool) (n : ℕ) → Ok n ≡ cond b (Ok (length archive)) (Err WrongTables) → b ≡ true
  sized_of true n e = refl
  sized_of false n e = cc

  length_of : (b : Bool) (n : ℕ) → Ok n ≡ cond b (Ok (length archive)) (Err WrongTables) → n ≡ length archive
  length_of true n e = cc
  length_of false n e = cc

  refused_of : (b : Bool) (e : Unwritten) (space : List ℕ) → Err e ≡ cond b (Ok (length archive)) (Err WrongTables)
      → writing_as (Err e) space ≡ cond b (laid_down archive space) (writing_as (Err WrongTables) space)
  refused_of true e space h = cc
  refused_of false e space h = ap (λ r. writing_as r space) h

  short_of : (space : List ℕ) → length space < length archive → writing_as (Err SpaceShort) space ≡ laid_down archive space
  short_of space h = sym (simp (lt-leb (length archive) (length space) h))

  told_of : (n : ℕ) (space left : List ℕ) → n ≡ length archive → n ≤ length space → left ≡ laid archive space → writing_as (Ok n) left ≡ laid_down archive space
  told_of n space left e h p = (λ i. writing_as (Ok (e i)) (p i)) ∙ sym (simp (le-leb (length archive) (length space) (omega arith)))

module _ {S R : Type 0} (o : Order S) (k : RecordKind R) (g : Registry S R) where
  -- the archive of a registry, made of its heads
  pub archive_same : whole_of o k g.opening g.lines (take g.own.jobs g.heads) ≡ archive_of o k g
  archive_same = whole_same o k g.opening g.lines (take g.own.jobs g.heads)

  -- no more values and jobs than the limits
  pub few_values : registry_sized g ≡ true → length g.opening ≤ 1024
  few_values h = let t = sizes g h in omega (arith, t.opening, t.most)

  pub few_jobs : registry_sized g ≡ true → length (take g.own.jobs g.heads) ≤ 4096
  few_jobs h = let t = sizes g h in let l = length-take g.own.jobs g.heads in omega (arith, t.heads, l)

  -- the size
  pub size_refused : registry_sized g ≡ false → Err WrongTables ≡ archive_size o k g
  size_refused h = sym (ap (λ b. cond b (Ok (length (archive_of o k g))) (Err WrongTables)) h)

  pub size_told : (n : ℕ) → registry_sized g ≡ true → n ≡ length (archive_of o k g) → Ok n ≡ archive_size o k g
  size_told n h e = ap Ok e ∙ sym (ap (λ b. cond b (Ok (length (archive_of o k g))) (Err WrongTables)) h)

  pub size_sized : (n : ℕ) → Ok n ≡ archive_size o k g → registry_sized g ≡ true
  size_sized n e = sized_of (archive_of o k g) (registry_sized g) n e

  pub size_length : (n : ℕ) → Ok n ≡ archive_size o k g → n ≡ length (archive_of o k g)
  size_length n e = length_of (archive_of o k g) (registry_sized g) n e

  -- what is written
  abbrev by : Bool → List ℕ → Writing
  by b space = cond b (laid_down (archive_of o k g) space) (writing_as (Err WrongTables) space)

  pub write_refused : (e : Unwritten) (space : List ℕ) → Err e ≡ archive_size o k g → writing_as (Err e) space ≡ written o k g space
  write_refused e space h = refused_of (archive_of o k g) (registry_sized g) e space h

  pub write_short : (n : ℕ) (space : List ℕ) → Ok n ≡ archive_size o k g → length space < n → writing_as (Err SpaceShort) space ≡ written o k g space
  write_short n space h l =
      let e = size_length n h in
      short_of (archive_of o k g) space (omega arith) ∙ sym (ap (λ b. by b space) (size_sized n h))

  pub write_told : (n : ℕ) (space left : List ℕ) → Ok n ≡ archive_size o k g → n ≤ length space → left ≡ laid (archive_of o k g) space → writing_as (Ok n) left ≡ written o k g space
  write_told n space left h l p = told_of (archive_of o k g) n space left (size_length n h) l p ∙ sym (ap (λ b. by b space) (size_sized n h))
