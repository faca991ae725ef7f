-- What is known of an archive that was read.
use Rattle.std.proofs.Common.{◌≡◌, ℕ, ◌+◌, ◌*◌, ◌≤◌, true, ◌&&◌, leb, List, length, drop, Ok, ap, ◌∙◌, sym, subst}
use Rattle.std.proofs.lemmas.Bool.{and_parts, leb-true}
use Rattle.kinds.specs.Stamps.{Order}
use Rattle.kinds.specs.Values.{RecordKind}
use Rattle.archive.specs.declared.fault.Fault.TheVariants.{HeadingWrong}
use Rattle.archive.specs.declared.heading.Heading.{Heading}
use Rattle.archive.specs.Faults.{onward}
use Rattle.archive.specs.Heading.{mark_right, kinds_right, sizes_right, read_sizes, read_heading}
use Rattle.archive.specs.Directory.{read_directory}
use Rattle.archive.specs.Values.{read_values}
use Rattle.archive.specs.Blocks.{read_blocks}
use Rattle.archive.specs.Rule.{read_archive, read_play, inspected}
use Rattle.archive.specs.Journal.{stated_records, stated_count, stated_opening}
use Rattle.archive.proofs.Fields.{guarded, bound, ok_same}
use Rattle.archive.proofs.Long.{values_long}

module _ {S R : Type 0} (o : Order S) (k : RecordKind R) (bs : List ℕ) where
  -- what its heading, its directory, its opening values and its blocks say
  pub record ArchiveSays (h : Heading) : Type 0 where
    pub heading : record { records = stated_records bs; jobs = stated_count bs } ≡ h
    pub marked : (leb 6 (length bs) && (mark_right bs && kinds_right o.number k.number bs)) ≡ true
    pub sizes : sizes_right (drop 6 bs) ≡ true
    pub last : ℕ
    pub directory : read_directory bs (stated_records bs) (stated_count bs) ≡ Ok last
    pub values : read_values k.form bs (20 + 8 * stated_count bs) 12 (stated_records bs) ≡ Ok tt
    pub end : ℕ
    pub blocks : read_blocks o k.form bs (stated_records bs) 20 (20 + 8 * stated_count bs + 12 * stated_records bs) o.least (stated_count bs) ≡ Ok end

  -- what was read behind the heading
  abbrev Rest : Heading → Heading → Type 0
  Rest h x =
      onward (read_directory bs h.records h.jobs) (λ _.
      onward (read_values k.form bs (20 + 8 * h.jobs) 12 h.records) (λ _.
      onward (read_blocks o k.form bs h.records 20 (20 + 8 * h.jobs + 12 * h.records) o.least h.jobs) (λ _.
      Ok h))) ≡ Ok x

  pub archive_says : (h : Heading) → read_archive o k bs ≡ Ok h → ArchiveSays h
  archive_says h q =
      let a = bound (read_heading o.number k.number bs) _ h q in
      let m = guarded (leb 6 (length bs) && (mark_right bs && kinds_right o.number k.number bs)) (read_sizes (drop 6 bs)) HeadingWrong a.0 a.1 in
      let s = guarded (sizes_right (drop 6 bs)) (Ok (record { records = stated_records bs; jobs = stated_count bs })) HeadingWrong a.0 m.1 in
      let r : Rest (record { records = stated_records bs; jobs = stated_count bs }) h = subst (λ (z : Heading). Rest z h) (sym (ok_same _ _ s.1)) a.2 in
      let d = bound (read_directory bs (stated_records bs) (stated_count bs)) _ h r in
      let v = bound (read_values k.form bs (20 + 8 * stated_count bs) 12 (stated_records bs)) _ h d.2 in
      let b = bound (read_blocks o k.form bs (stated_records bs) 20 (20 + 8 * stated_count bs + 12 * stated_records bs) o.least (stated_count bs)) _ h v.2 in
      record { heading = ok_same _ _ b.2; marked = m.0; sizes = s.0; last = d.0; directory = d.1; values = v.1; end = b.0; blocks = b.1 }

  -- the limits of the numbers that a heading states
  pub record StatedWithin : Type 0 where
    pub some_records : 1 ≤ stated_records bs
    pub few_records : stated_records bs ≤ 1024
    pub few_jobs : stated_count bs ≤ 4096

  pub stated_within : (h : Heading) → ArchiveSays h → StatedWithin
  stated_within h z =
      let a = and_parts (leb 6 (length (drop 6 bs))) _ z.sizes in
      let b = and_parts (leb 1 (stated_records bs)) _ a.1 in
      let c = and_parts (leb (stated_records bs) 1024) (leb (stated_count bs) 4096) b.1 in
      record { some_records = leb-true _ _ b.0; few_records = leb-true _ _ c.0; few_jobs = leb-true _ _ c.1 }

  -- as many opening values as records
  pub opening_long : (h : Heading) → read_archive o k bs ≡ Ok h → length (stated_opening o k bs) ≡ h.records
  opening_long h q =
      let z = archive_says h q in
      values_long k.form bs (stated_records bs) (20 + 8 * stated_count bs) z.values ∙ ap (λ (x : Heading). x.records) z.heading

  -- what is accepted was read, its play passes, and its heading states so many jobs
  pub record InspectedSays (j : ℕ) : Type 0 where
    pub heading : Heading
    pub read : read_archive o k bs ≡ Ok heading
    pub played : read_play o bs heading.records heading.jobs ≡ Ok tt
    pub count : heading.jobs ≡ j

  pub inspected_says : (j : ℕ) → inspected o k bs ≡ Ok j → InspectedSays j
  inspected_says j q =
      let a = bound (read_archive o k bs) (λ h. onward (read_play o bs h.records h.jobs) (λ _. Ok h.jobs)) j q in
      let b = bound (read_play o bs a.0.records a.0.jobs) (λ _. Ok a.0.jobs) j a.2 in
      record { heading = a.0; read = a.1; played = b.1; count = ok_same _ _ b.2 }
