-- What users lean on holds after every run.
use mathlib.Core.List.Permᴰ
use Rattle.std.proofs.Common.{◌≡◌, ℕ, suc, ◌<◌, ◌≤◌, Bool, true, false, ◌≢◌, ◌⊎◌, List, [], ◌∷◌, map, length, is_some, Some, None, Option, sym, refl, ap, ◌∙◌, subst, inl, inr, ⊎_elim, arith}
use Rattle.std.specs.List.{AllByRecursion}
use Rattle.std.proofs.lemmas.Bool.{false≢true}
use Rattle.kinds.specs.Stamps.{Order, Kind, Lawful, Before}
use Rattle.model.specs.declared.entry.Entry.{Entry}
use Rattle.model.specs.declared.row.Row.{Row}
use Rattle.station.specs.declared.job.Standing.{Standing}
use Rattle.station.specs.declared.job.Standing.TheVariants.{Live, Shut}
use Rattle.station.specs.Station.{is_shut}
use Rattle.law.specs.Daybook.{Look, Put, Daybook, AcceptedJob, when, look_first, put_first, looks_of, puts_of, journal_of}
use Rattle.law.specs.Runs.{Desk, start}
use Rattle.law.specs.Promises.{Pairwise, look_numbers, put_numbers, StandsIn, NeatJob, Rising, KeptPromises, PromisesKept}
use Rattle.law.proofs.Members.{In, all_in, in_all, in_arranged, Pairs, pairs_arranged}
use Rattle.law.proofs.Views.{leaf, Distinct}
use Rattle.law.proofs.Acceptance.{top_in, older_in}
use Rattle.law.proofs.Invariant.{Inv}
use Rattle.law.proofs.EveryRun.{run_inv, founded_inv}
use Rattle.law.proofs.Keeping.{Neat, Keeps, every_run_keeps}

-- pairs by membership are pairs in turn
pairwise : {A : Type 0} (R : A → A → Type 0) (xs : List A) → Pairs R xs → Pairwise R xs
pairwise R [] h = tt
pairwise R (x ∷ xs) h = (in_all (R x) xs h.0, pairwise R xs h.1)

numbers_in : {A : Type 0} (P : A → Type 0) (Q : ℕ → Type 0) (f : A → ℕ) (xs : List A) → ((a : A) → P a → Q (f a)) → AllByRecursion P xs → AllByRecursion Q (map f xs)
numbers_in P Q f [] h p = tt
numbers_in P Q f (x ∷ xs) h p = (h x p.0, numbers_in P Q f xs h p.1)

module _ {S R : Type 0} where
  abbrev number : Entry S R → ℕ
  number e = e.number

  -- the numbers of looks and of puts are numbers of entries
  looks_all : (P : ℕ → Type 0) (es : List (Entry S R)) → AllByRecursion (λ (e : Entry S R). P e.number) es → AllByRecursion P (look_numbers (looks_of (leaf es)))
  looks_all P [] h = tt
  looks_all P (e ∷ es) h = by e.seen (looks_all P es h.1)
    where
      by : (t : Bool) → AllByRecursion P (look_numbers (looks_of (leaf es))) → AllByRecursion P (look_numbers (look_first e.number (when t (record { value = e.saw; stamp = e.noted })) (looks_of (leaf es))))
      by true k = (h.0, k)
      by false k = k

  puts_all : (P : ℕ → Type 0) (es : List (Entry S R)) → AllByRecursion (λ (e : Entry S R). P e.number) es → AllByRecursion P (put_numbers (puts_of (leaf es)))
  puts_all P [] h = tt
  puts_all P (e ∷ es) h = by e.put (puts_all P es h.1)
    where
      by : (t : Bool) → AllByRecursion P (put_numbers (puts_of (leaf es))) → AllByRecursion P (put_numbers (put_first e.number (when t e.wrote) (puts_of (leaf es))))
      by true k = (h.0, k)
      by false k = k

  -- so they are apart where the entries are
  apart_from : (e : Entry S R) (es : List (Entry S R)) → ((a : Entry S R) → In a es → e.number ≢ a.number) → AllByRecursion (λ (a : Entry S R). e.number ≢ a.number) es
  apart_from e es h = in_all (λ (a : Entry S R). e.number ≢ a.number) es h

  looks_apart : (es : List (Entry S R)) → Distinct es → Pairwise ◌≢◌ (look_numbers (looks_of (leaf es)))
  looks_apart [] h = tt
  looks_apart (e ∷ es) h = by e.seen (looks_apart es h.1)
    where
      by : (t : Bool) → Pairwise ◌≢◌ (look_numbers (looks_of (leaf es))) → Pairwise ◌≢◌ (look_numbers (look_first e.number (when t (record { value = e.saw; stamp = e.noted })) (looks_of (leaf es))))
      by true k = (looks_all (λ n. e.number ≢ n) es (apart_from e es h.0), k)
      by false k = k

  puts_apart : (es : List (Entry S R)) → Distinct es → Pairwise ◌≢◌ (put_numbers (puts_of (leaf es)))
  puts_apart [] h = tt
  puts_apart (e ∷ es) h = by e.put (puts_apart es h.1)
    where
      by : (t : Bool) → Pairwise ◌≢◌ (put_numbers (puts_of (leaf es))) → Pairwise ◌≢◌ (put_numbers (put_first e.number (when t e.wrote) (puts_of (leaf es))))
      by true k = (puts_all (λ n. e.number ≢ n) es (apart_from e es h.0), k)
      by false k = k

  -- the numbers of a sheet
  each_stands : (es : List (Entry S R)) → AllByRecursion (λ (e : Entry S R). StandsIn (map number es) e.number) es
  each_stands [] = tt
  each_stands (e ∷ es) =
      ((0, refl), in_all (λ (a : Entry S R). StandsIn (map number (e ∷ es)) a.number) es (λ a m. let s = all_in (λ (e : Entry S R). StandsIn (map number es) e.number) m (each_stands es) in (suc s.0, s.1)))

  length-numbers : (es : List (Entry S R)) → length (map number es) ≡ length es
  length-numbers [] = refl
  length-numbers (e ∷ es) = ap suc (length-numbers es)

  -- a job as it was handed in
  neat_job : (o : Order S) (records : ℕ) (a : AcceptedJob S R) → Before o o.least a.stamp → 1 ≤ a.ticket → Neat records a → NeatJob o records a
  neat_job o records a risen ticketed n =
      record {
        risen = risen;
        ticketed = ticketed;
        looks_apart = subst (λ (z : List (Look S R)). Pairwise ◌≢◌ (look_numbers z)) (sym n.looks_are) (looks_apart n.entries n.distinct);
        puts_apart = subst (λ (z : List (Put R)). Pairwise ◌≢◌ (put_numbers z)) (sym n.puts_are) (puts_apart n.entries n.distinct);
        named = map number n.entries;
        few = let l = length-numbers n.entries in let f = n.few in omega arith;
        looks_named = subst (λ (z : List (Look S R)). AllByRecursion (StandsIn (map number n.entries)) (look_numbers z)) (sym n.looks_are) (looks_all (StandsIn (map number n.entries)) n.entries (each_stands n.entries));
        puts_named = subst (λ (z : List (Put R)). AllByRecursion (StandsIn (map number n.entries)) (put_numbers z)) (sym n.puts_are) (puts_all (StandsIn (map number n.entries)) n.entries (each_stands n.entries));
        inside = numbers_in (λ (e : Entry S R). e.number < records) (λ x. x < records) number n.entries (λ e p. p) n.inside;
      }

module _ {S R : Type 0} (k : Kind S) (laws : Lawful k) (values : List R) (d : Desk S R) (b : Daybook S R) (h : Inv k values d b) (q : Keeps k.order values d.registry b.accepted) where
  in_accepted : (a : AcceptedJob S R) → In a (journal_of d.registry) → In a b.accepted
  in_accepted a m = in_arranged (Permᴰ.symm h.journal.serial.same_jobs) m

  unequal : {a c : ℕ} → (a < c) ⊎ (c < a) → a ≢ c
  unequal (inl l) e = omega arith
  unequal (inr l) e = omega arith

  apart : Pairs (λ (a c : AcceptedJob S R). a.ticket ≢ c.ticket) b.accepted
  apart = weaken b.accepted q.in_order
    where
      weaken : (xs : List (AcceptedJob S R)) → Pairs (λ (a c : AcceptedJob S R). a.ticket < c.ticket) xs → Pairs (λ (a c : AcceptedJob S R). a.ticket ≢ c.ticket) xs
      weaken [] p = tt
      weaken (x ∷ xs) p = ((λ y m. unequal (inl (p.0 y m))), weaken xs p.1)

  -- a live job's place
  live : (s : Standing) → s ≡ Live → is_shut s ≡ true → ⊥
  live Live e f = false≢true f
  live Shut e f = let z : ◌≡◌ {A = ℕ} 0 1 = cc in omega arith

  some_of : (p : Option S) → is_some p ≡ true → (s : S) × (p ≡ Some s)
  some_of None e = absurd (false≢true e)
  some_of (Some s) e = (s, refl)

  pub promises : KeptPromises k d
  promises =
      record {
        jobs = in_all (NeatJob k.order d.registry.own.records) (journal_of d.registry)
            (λ a m. let c = in_accepted a m in subst (λ (z : ℕ). NeatJob k.order z a) (sym h.records) (neat_job k.order (length values) a (h.sound.risen a c) (q.taken a c).0 (q.neat a c)));
        tickets_apart = pairwise (λ (a c : AcceptedJob S R). a.ticket ≢ c.ticket) (journal_of d.registry)
            (pairs_arranged (λ (a c : AcceptedJob S R). a.ticket ≢ c.ticket) (λ a c n e. n (sym e)) h.journal.serial.same_jobs apart);
        versions = λ x r e. subst (λ (z : Option (Row S R)). Rising k.order (top_in k.order z) (older_in z)) e (q.rising x);
        places = λ j t e l n. ⊎_elim (λ c. absurd (n c.0)) (⊎_elim (λ c. absurd (live t.job.standing l c)) (λ c. some_of (k.pick t.job.lower t.job.upper) c)) (h.job_ok j t e).good.place;
        fresh = λ j t e l n s f. ⊎_elim
            (λ c. laws.picks.none k.order.least None (ap (λ (z : Option S). k.pick k.order.least z) (sym c.2) ∙ ap (λ (z : S). k.pick z t.job.upper) (sym c.1) ∙ n) s (f, tt))
            (⊎_elim (λ c. live t.job.standing l c) (λ c. false≢true (sym (ap is_some n) ∙ c))) (h.job_ok j t e).good.place;
      }

pub promises_kept : {S : Type 0} (k : Kind S) → Lawful k → (R : Type 0) → PromisesKept k R
promises_kept k laws R values brought e calls =
    promises k laws values _ _ (run_inv k laws values calls (start k values brought) (founded_inv k laws values brought e)) (every_run_keeps k laws values brought e calls)
