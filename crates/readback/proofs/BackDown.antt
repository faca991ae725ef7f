-- Where heading, directory, values and blocks stand in the bytes that are laid down.
use Rattle.std.proofs.Common.{◌≡◌, ℕ, ◌+◌, ◌*◌, true, ◌&&◌, leb, List, ◌∷◌, ◌++◌, length, drop, Ok, Err, refl, ap, ◌∙◌, mul-suc, arith}
use Rattle.std.specs.List.{flat_map}
use Rattle.std.proofs.lemmas.List.{length-append, length-map, length-drop}
use Rattle.std.proofs.lemmas.Bool.{and_from, cond-true, eq-eqb, le-leb}
use Rattle.kinds.specs.Bytes.{be4}
use Rattle.kinds.specs.ByteLaws.{back2, back4}
use Rattle.kinds.specs.Stamps.{Order}
use Rattle.kinds.specs.Values.{RecordKind, Written}
use Rattle.law.specs.Daybook.{AcceptedJob}
use Rattle.archive.specs.declared.fault.Fault.TheVariants.{HeadingWrong}
use Rattle.archive.specs.declared.heading.Heading.{Heading}
use Rattle.archive.specs.Heading.{heading_bytes, mark_right, kinds_right, records_in, jobs_in, sizes_right, read_sizes, read_heading}
use Rattle.archive.specs.Directory.{pairs_bytes}
use Rattle.archive.specs.Values.{values_bytes}
use Rattle.archive.specs.Journal.{block_bytes, block_lengths, archive_bytes, stated_records, stated_count}
use Rattle.archive.proofs.Stands.{Stands, first, second, of_all, moved, behind}
use Rattle.archive.proofs.Forth.{values_length}
use Rattle.archive.proofs.OneForm.{pairs_long}
use Rattle.readback.specs.Sound.{Orderly}

abbrev pub counts : ℕ → ℕ → Heading
counts n j = record { records = n; jobs = j }

-- bytes in which some values and jobs are laid down
module _ {S R : Type 0} (o : Order S) (k : RecordKind R) (bs : List ℕ) (values : List R) (jobs : List (AcceptedJob S R)) where
  pub record Down : Type 0 where
    pub heading : read_heading o.number k.number bs ≡ Ok (counts (length values) (length jobs))
    pub records : stated_records bs ≡ length values
    pub count : stated_count bs ≡ length jobs
    pub opening_pair : Stands bs 12 (be4 (20 + 8 * length jobs) ++ be4 (12 * length values))
    pub job_pairs : Stands bs 20 (pairs_bytes (20 + 8 * length jobs + 12 * length values) (block_lengths o k.form jobs))
    pub laid_values : Stands bs (20 + 8 * length jobs) (values_bytes k.form values)
    pub laid_jobs : Stands bs (20 + 8 * length jobs + 12 * length values) (flat_map (block_bytes o k.form) jobs)
    pub long : 20 + 8 * length jobs + 12 * length values + length (flat_map (block_bytes o k.form) jobs) ≡ length bs

-- heading, directory, values and blocks, each at its place
module _ {S R : Type 0} (o : Order S) (k : RecordKind R) (formed : Written k) (values : List R) (jobs : List (AcceptedJob S R)) (orderly : Orderly o values jobs) where
  abbrev bytes : List ℕ
  bytes = archive_bytes o k values jobs

  abbrev pairs : List ℕ
  pairs = pairs_bytes (20 + 8 * length jobs) (12 * length values ∷ block_lengths o k.form jobs)

  abbrev blocks : List ℕ
  blocks = flat_map (block_bytes o k.form) jobs

  behind_heading : Stands bytes 12 (pairs ++ (values_bytes k.form values ++ blocks))
  behind_heading = second bytes 0 (heading_bytes o.number k.number (length values) (length jobs)) (pairs ++ (values_bytes k.form values ++ blocks)) (of_all bytes)

  pairs_length : length pairs ≡ 8 + 8 * length jobs
  pairs_length =
      let p = pairs_long (20 + 8 * length jobs) (12 * length values ∷ block_lengths o k.form jobs) in
      let m = mul-suc 8 (length (block_lengths o k.form jobs)) in
      let l : length (block_lengths o k.form jobs) ≡ length jobs = length-map jobs (λ a. length (block_bytes o k.form a)) in
      omega arith

  behind_pairs : Stands bytes (20 + 8 * length jobs) (values_bytes k.form values ++ blocks)
  behind_pairs =
      let l = pairs_length in
      moved bytes (values_bytes k.form values ++ blocks) (far (length pairs) (length jobs) l) (second bytes 12 pairs (values_bytes k.form values ++ blocks) behind_heading)
    where
      far : (l j : ℕ) → l ≡ 8 + 8 * j → 12 + l ≡ 20 + 8 * j
      far l j e = omega arith

  all_long : 20 + 8 * length jobs + 12 * length values + length blocks ≡ length bytes
  all_long =
      let p = pairs_length in
      let v = values_length k.form formed values in
      let a = length-append pairs (values_bytes k.form values ++ blocks) in
      let b = length-append (values_bytes k.form values) blocks in
      omega arith

  records_there : records_in (drop 6 bytes) ≡ length values
  records_there = let x = orderly.few_records in back2 (length values) (omega arith)

  jobs_there : jobs_in (drop 6 bytes) ≡ length jobs
  jobs_there = let x = orderly.few_jobs in back4 (length jobs) (omega arith)

  sizes_there : sizes_right (drop 6 bytes) ≡ true
  sizes_there =
      let l = all_long in
      let d = length-drop 6 bytes in
      let r = records_there in
      let j = jobs_there in
      let x = orderly.some_records in
      let y = orderly.few_records in
      let z = orderly.few_jobs in
      and_from _ _ (le-leb 6 (length (drop 6 bytes)) (omega arith))
      (and_from _ _ (le-leb 1 (records_in (drop 6 bytes)) (omega arith))
      (and_from _ _ (le-leb (records_in (drop 6 bytes)) 1024 (omega arith)) (le-leb (jobs_in (drop 6 bytes)) 4096 (omega arith))))

  heading_there : read_heading o.number k.number bytes ≡ Ok (counts (length values) (length jobs))
  heading_there =
      let l = all_long in
      cond-true (leb 6 (length bytes) && (mark_right bytes && kinds_right o.number k.number bytes)) (read_sizes (drop 6 bytes)) (Err HeadingWrong)
      (and_from _ _ (le-leb 6 (length bytes) (omega arith))
      (and_from (mark_right bytes) (kinds_right o.number k.number bytes) refl (and_from _ _ (eq-eqb o.number o.number refl) (eq-eqb k.number k.number refl))))
      ∙ cond-true (sizes_right (drop 6 bytes)) (Ok (counts (records_in (drop 6 bytes)) (jobs_in (drop 6 bytes)))) (Err HeadingWrong) sizes_there
      ∙ ap (λ n. Ok (counts n (jobs_in (drop 6 bytes)))) records_there
      ∙ ap (λ j. Ok (counts (length values) j)) jobs_there

  pub down : Down o k bytes values jobs
  down =
      let p = first bytes 12 pairs (values_bytes k.form values ++ blocks) behind_heading in
      let v = values_length k.form formed values in
      let rest : List ℕ = pairs_bytes (20 + 8 * length jobs + 12 * length values) (block_lengths o k.form jobs) in
      record {
        heading = heading_there;
        records = records_there;
        count = jobs_there;
        opening_pair = first bytes 12 (be4 (20 + 8 * length jobs) ++ be4 (12 * length values)) rest p;
        job_pairs = second bytes 12 (be4 (20 + 8 * length jobs) ++ be4 (12 * length values)) rest p;
        laid_values = first bytes (20 + 8 * length jobs) (values_bytes k.form values) blocks behind_pairs;
        laid_jobs = behind bytes (20 + 8 * length jobs) (12 * length values) (values_bytes k.form values) blocks v behind_pairs;
        long = all_long;
      }
