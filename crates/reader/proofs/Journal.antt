-- The jobs that an archive states, found by the offsets in its directory.
use Rattle.std.proofs.Common.{◌≡◌, ℕ, zero, suc, ◌+◌, ◌*◌, ◌<◌, eqb, List, length, get_or, take, Some, None, Ok, Option, refl, sym, ap, ◌∙◌, subst, mul-zero, mul-suc, arith}
use Rattle.std.specs.Prelude.{fold}
use Rattle.std.specs.List.{slice_get}
use Rattle.std.specs.Option.{option_map}
use Rattle.kinds.specs.Bytes.{number4, part}
use Rattle.kinds.specs.Forms.{Form}
use Rattle.kinds.specs.Stamps.{Order}
use Rattle.kinds.specs.Values.{RecordKind}
use Rattle.law.specs.Daybook.{AcceptedJob}
use Rattle.archive.specs.declared.heading.Heading.{Heading}
use Rattle.archive.specs.Directory.{stated_length}
use Rattle.archive.specs.Values.{read_values, stated_values}
use Rattle.archive.specs.Blocks.{stamp_at, read_blocks}
use Rattle.archive.specs.Rule.{read_archive}
use Rattle.archive.specs.Journal.{stated_job, seen_job, stated_jobs, stated_puts, stated_records, stated_count, stated_opening, stated_journal}
use Rattle.archive.proofs.KnownPairs.{PairSays}
use Rattle.archive.proofs.KnownArchive.{archive_says}
use Rattle.archive.proofs.KnownBlocks.{first_says}
use Rattle.reader.specs.Readable.{Readable}
use Rattle.reader.specs.Rebuilt.{with_puts, with_job}

-- a job in front of others
module _ {S R : Type 0} (o : Order S) (f : Form R) (bs : List ℕ) where
  pub record JobFirst (at : ℕ) (u0 : Option S) (js : List (AcceptedJob S R)) : Type 0 where
    pub long : length (seen_job o f bs at u0 js) ≡ suc (length js)
    pub front : slice_get (seen_job o f bs at u0 js) zero ≡ option_map (stated_job o f bs at) u0
    pub behind : (i : ℕ) → slice_get (seen_job o f bs at u0 js) (suc i) ≡ slice_get js i
    pub played : (vs : List R) (i : ℕ) → fold with_job vs (take (suc i) (seen_job o f bs at u0 js))
        ≡ fold with_job (with_puts vs (stated_puts o f bs (at + 16 + 22 * get_or bs (at + 12) 0) (get_or bs (at + 13) 0))) (take i js)

  job_first : (at : ℕ) (u0 : Option S) (s : S) (js : List (AcceptedJob S R)) → u0 ≡ Some s → JobFirst at u0 js
  job_first at (Some t) s js e = record { long = refl; front = refl; behind = λ i. refl; played = λ vs i. refl }
  job_first at None s js e = let z : ◌≡◌ {A = ℕ} 0 1 = cc in absurd (omega arith)

module _ {S R : Type 0} (o : Order S) (f : Form R) (bs : List ℕ) where
  -- the block at a place can be read, and states a job
  abbrev pub CanRead : ℕ → Type 0
  CanRead at = Readable o f bs at (get_or bs (at + 12) 0) (get_or bs (at + 13) 0)

  pub record JobTold (at : ℕ) (found : Option (AcceptedJob S R)) : Type 0 where
    pub readable : CanRead at
    pub found_is : found ≡ option_map (stated_job o f bs at) (stamp_at o bs at)

  -- the first of the blocks, and those behind it
  pub record BlocksMet (dir at n m end : ℕ) : Type 0 where
    pub pair : PairSays bs dir at (at + stated_length bs dir) (eqb m 0)
    pub first : JobFirst o f bs at (stamp_at o bs at) (stated_jobs o f bs (dir + 8) (at + stated_length bs dir) m)
    pub readable : CanRead at
    pub low : S
    pub rest : read_blocks o f bs n (dir + 8) (at + stated_length bs dir) low m ≡ Ok end

  pub blocks_met : (dir at n m end : ℕ) (low : S) → read_blocks o f bs n dir at low (suc m) ≡ Ok end → BlocksMet dir at n m end
  blocks_met dir at n m end low q =
      let z = first_says o f bs dir at n m end low q in
      let p = z.pair in
      let k = z.block in
      record {
        pair = p;
        first = job_first o f bs at (stamp_at o bs at) k.stamp (stated_jobs o f bs (dir + 8) (at + stated_length bs dir) m) k.stamped;
        readable =
            record {
              front = omega (arith, p.within, k.long);
              looks = record { within = omega (arith, p.within, k.long); noted = k.noted; valued = k.look_values };
              puts = record { within = omega (arith, p.within, k.long); valued = k.put_values };
            };
        low = z.opened.stamp;
        rest = z.rest;
      }

  pub jobs_long : (m dir at n end : ℕ) (low : S) → read_blocks o f bs n dir at low m ≡ Ok end → length (stated_jobs o f bs dir at m) ≡ m
  jobs_long zero dir at n end low q = refl
  jobs_long (suc m) dir at n end low q =
      let b = blocks_met dir at n m end low q in
      b.first.long ∙ ap suc (jobs_long m (dir + 8) (at + stated_length bs dir) n end b.low b.rest)

  pub job_told : (m dir at n end k : ℕ) (low : S) → k < m → read_blocks o f bs n dir at low m ≡ Ok end
      → JobTold (number4 (part bs (dir + 8 * k) 4)) (slice_get (stated_jobs o f bs dir at m) k)
  job_told zero dir at n end k low l q = absurd (omega arith)
  job_told (suc m) dir at n end zero low l q =
      let b = blocks_met dir at n m end low q in
      let e : dir ≡ dir + 8 * zero = omega (arith, mul-zero 8) in
      let P : ℕ → Type 0 = λ i. JobTold i (slice_get (stated_jobs o f bs dir at (suc m)) zero) in
      subst P (sym b.pair.starts ∙ ap (λ i. number4 (part bs i 4)) e) (record { readable = b.readable; found_is = b.first.front })
  job_told (suc m) dir at n end (suc k) low l q =
      let b = blocks_met dir at n m end low q in
      let e : dir + 8 + 8 * k ≡ dir + 8 * suc k = omega (arith, mul-suc 8 k) in
      let t = job_told m (dir + 8) (at + stated_length bs dir) n end k b.low (omega arith) b.rest in
      let P : ℕ → Type 0 = λ i. JobTold (number4 (part bs i 4)) (slice_get (stated_jobs o f bs dir at (suc m)) (suc k)) in
      subst P e (record { readable = t.readable; found_is = b.first.behind k ∙ t.found_is })

module _ {S R : Type 0} (o : Order S) (k : RecordKind R) (bs : List ℕ) where
  -- the opening values, by the numbers of the heading
  pub opening_is : (h : Heading) → read_archive o k bs ≡ Ok h → stated_opening o k bs ≡ stated_values k.form bs (20 + 8 * h.jobs) 12 h.records
  opening_is h q =
      let F : Heading → List R = λ x. stated_values k.form bs (20 + 8 * x.jobs) 12 x.records in
      ap F (archive_says o k bs h q).heading

  pub opening_read : (h : Heading) → read_archive o k bs ≡ Ok h → read_values k.form bs (20 + 8 * h.jobs) 12 h.records ≡ Ok tt
  opening_read h q =
      let z = archive_says o k bs h q in
      subst (λ (x : Heading). read_values k.form bs (20 + 8 * x.jobs) 12 x.records ≡ Ok tt) z.heading z.values

  -- as many jobs as the heading says
  pub journal_long : (h : Heading) → read_archive o k bs ≡ Ok h → length (stated_journal o k bs) ≡ h.jobs
  journal_long h q =
      let z = archive_says o k bs h q in
      jobs_long o k.form bs (stated_count bs) 20 (20 + 8 * stated_count bs + 12 * stated_records bs) (stated_records bs) z.end o.least z.blocks ∙ ap (λ (x : Heading). x.jobs) z.heading

  -- the job of a number stands where its pair says
  pub job_found : (h : Heading) (i : ℕ) → read_archive o k bs ≡ Ok h → i < h.jobs → JobTold o k.form bs (number4 (part bs (20 + 8 * i) 4)) (slice_get (stated_journal o k bs) i)
  job_found h i q l =
      let z = archive_says o k bs h q in
      job_told o k.form bs (stated_count bs) 20 (20 + 8 * stated_count bs + 12 * stated_records bs) (stated_records bs) z.end i o.least
      (subst (λ (x : Heading). i < x.jobs) (sym z.heading) l) z.blocks
