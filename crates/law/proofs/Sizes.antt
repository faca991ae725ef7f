-- The lengths of the registrar's tables, one by one, and that every step keeps them.
use Rattle.std.proofs.Common.{◌≡◌, ℕ, ◌+◌, ◌*◌, ◌<◌, ◌≤◌, true, ◌&&◌, leb, List, length, sym, refl, ◌∙◌, arith, length-set, length-take}
use lib.ListN.{length-replicate}
use Rattle.std.proofs.lemmas.Bool.{and_parts, and_from, leb-true, eqb-true, le-leb, eq-eqb}
use Rattle.kinds.specs.Stamps.{Order, Kind}
use Rattle.registrar.specs.declared.journal.Head.{Head}
use Rattle.model.specs.declared.verdict.Verdict.{Verdict}
use Rattle.model.specs.Tables.{lawful_size, sized}
use Rattle.station.specs.Station.{Station, work_of}
use Rattle.registrar.specs.Calls.{Lengths}
use Rattle.registrar.specs.Deciding.{Waiting}
use Rattle.registrar.proofs.Heads.{stepped_within}
use Rattle.std.proofs.lemmas.List.Edits.{length-insert}
use Rattle.registrar.specs.Registry.{Registry, tables_sized, registry_sized, founded, submitted, next_place, steps, ahead, entered, passed_over, taken_up, cleared}
use Rattle.model.proofs.Laid.{length-laid, length-laid_from}
use Rattle.law.proofs.RowLaws.{length-rows_after, length-firsts_after, length-founded}

module _ {S R : Type 0} where
  abbrev pub Sizes : Registry S R → Type 0
  Sizes g = Lengths g.own.records g

  -- the test on all tables says each of these, and the other way round
  pub tables : (n : ℕ) (g : Registry S R) → tables_sized n g ≡ true → Lengths n g
  tables n g h =
      let a = and_parts (lawful_size n) _ h in
      let r = and_parts (leb 1 n) _ a.0 in
      let b = and_parts (sized g.rows n) _ a.1 in
      let c = and_parts (sized g.firsts n) _ b.1 in
      let d = and_parts (sized g.opening n) _ c.1 in
      let e = and_parts (sized g.queue 16) _ d.1 in
      let f = and_parts (sized g.queued 256) _ e.1 in
      let k = and_parts (sized g.outcomes 32) _ f.1 in
      let l = and_parts (leb 1 (length g.heads) && leb (length g.heads) 4096) _ k.1 in
      let m = and_parts (leb 1 (length g.heads)) _ l.0 in
      record {
        some = leb-true _ _ r.0;
        most = leb-true _ _ r.1;
        rows = eqb-true _ _ b.0;
        firsts = eqb-true _ _ c.0;
        opening = eqb-true _ _ d.0;
        queue = eqb-true _ _ e.0;
        queued = eqb-true _ _ f.0;
        outcomes = eqb-true _ _ k.0;
        some_head = leb-true _ _ m.0;
        heads = leb-true _ _ m.1;
        lines = eqb-true _ _ l.1;
      }

  pub tables_by : (n : ℕ) (g : Registry S R) → Lengths n g → tables_sized n g ≡ true
  tables_by n g t =
      and_from _ _ (and_from _ _ (le-leb _ _ t.some) (le-leb _ _ t.most)) (and_from _ _ (eq-eqb _ _ t.rows) (and_from _ _ (eq-eqb _ _ t.firsts) (and_from _ _ (eq-eqb _ _ t.opening)
      (and_from _ _ (eq-eqb _ _ t.queue) (and_from _ _ (eq-eqb _ _ t.queued) (and_from _ _ (eq-eqb _ _ t.outcomes)
      (and_from _ _ (and_from _ _ (le-leb _ _ t.some_head) (le-leb _ _ t.heads)) (eq-eqb _ _ t.lines))))))))

  pub sizes : (g : Registry S R) → registry_sized g ≡ true → Sizes g
  sizes g h = tables g.own.records g h

  pub sized_by : (g : Registry S R) → Sizes g → registry_sized g ≡ true
  sized_by g t = tables_by g.own.records g t

  -- submit, publish and found leave tables of the right lengths
  pub sized_submitted : (g : Registry S R) (t : Station S R) → registry_sized g ≡ true → length (work_of t).entries ≤ 16 → registry_sized (submitted g t) ≡ true
  sized_submitted g t h n =
      let z = sizes g h in
      sized_by (submitted g t)
      (record {
        some = z.some;
        most = z.most;
        rows = z.rows;
        firsts = z.firsts;
        opening = z.opening;
        queue = length-set g.queue (next_place g) _ ∙ z.queue;
        queued = length-laid_from (16 * next_place g) (work_of t).entries g.queued (omega arith) ∙ z.queued;
        outcomes = z.outcomes;
        some_head = z.some_head;
        heads = z.heads;
        lines = z.lines;
      })

  pub sized_cleared : (g : Registry S R) → registry_sized g ≡ true → registry_sized (cleared g) ≡ true
  sized_cleared g h =
      let z = sizes g h in
      sized_by (cleared g)
      (record {
        some = z.some;
        most = z.most;
        rows = z.rows;
        firsts = length-replicate (length g.firsts) _ ∙ z.firsts;
        opening = z.opening;
        queue = z.queue;
        queued = z.queued;
        outcomes = z.outcomes;
        some_head = z.some_head;
        heads = z.heads;
        lines = z.lines;
      })

  pub sized_founded : (o : Order S) (values : List R) (g : Registry S R) → tables_sized (length values) g ≡ true → registry_sized (founded o values g) ≡ true
  sized_founded o values g h =
      let z = tables (length values) g h in
      sized_by (founded o values g)
      (record {
        some = z.some;
        most = z.most;
        rows = length-founded o values g.rows (sym z.rows);
        firsts = length-replicate (length values) _;
        opening = refl;
        queue = z.queue;
        queued = z.queued;
        outcomes = z.outcomes;
        some_head = z.some_head;
        heads = z.heads;
        lines = z.lines;
      })

-- a head entered makes one more
pub length-entered : {S : Type 0} (o : Order S) (h : Head S) (js : List (Head S)) → length (entered o h js) ≡ length js + 1
length-entered o h js = length-insert js (ahead o h.stamp js) h (stepped_within o h.stamp js steps 0 (omega arith))

-- Both ends of a decision leave tables of the right lengths.
module _ {S R : Type 0} (k : Kind S) where
  pub sized_passed : (g : Registry S R) (w : Waiting S R) (v : Verdict S) → registry_sized g ≡ true → registry_sized (passed_over k g w v) ≡ true
  sized_passed g w v h =
      let z = sizes g h in
      sized_by (passed_over k g w v)
      (record {
        some = z.some;
        most = z.most;
        rows = z.rows;
        firsts = z.firsts;
        opening = z.opening;
        queue = z.queue;
        queued = z.queued;
        outcomes = length-set g.outcomes g.own.outcomes _ ∙ z.outcomes;
        some_head = z.some_head;
        heads = z.heads;
        lines = z.lines;
      })

  pub heads_taken : (g : Registry S R) (w : Waiting S R) (s : S) → g.own.jobs < length g.heads → length (taken_up k g w s).heads ≡ length g.heads
  heads_taken g w s j = length-laid _ g.heads (simp (length-entered, length-take) (omega arith))

  pub lines_taken : (g : Registry S R) (w : Waiting S R) (s : S) → registry_sized g ≡ true → g.own.jobs < length g.heads → length w.entries ≤ 16 → length (taken_up k g w s).lines ≡ length g.lines
  lines_taken g w s h j n = let z = sizes g h in length-laid_from (16 * g.own.jobs) w.entries g.lines (omega arith)

  pub sized_taken : (g : Registry S R) (w : Waiting S R) (s : S) → registry_sized g ≡ true → g.own.jobs < length g.heads → length w.entries ≤ 16 → registry_sized (taken_up k g w s) ≡ true
  sized_taken g w s h j n =
      let z = sizes g h in
      let a = heads_taken g w s j in
      let b = lines_taken g w s h j n in
      sized_by (taken_up k g w s)
      (record {
        some = z.some;
        most = z.most;
        rows = length-rows_after k.order s w.entries g.rows ∙ z.rows;
        firsts = length-firsts_after s w.entries g.firsts ∙ z.firsts;
        opening = z.opening;
        queue = z.queue;
        queued = z.queued;
        outcomes = length-set g.outcomes g.own.outcomes _ ∙ z.outcomes;
        some_head = omega arith;
        heads = omega arith;
        lines = omega arith;
      })
