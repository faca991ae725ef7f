-- What blocks that were read say of the jobs that they state: each is neat under a ticket of four bytes, and no stamp falls.
use Rattle.std.proofs.Common.{◌≡◌, ℕ, zero, suc, ◌+◌, ◌*◌, ◌<◌, true, List, ◌∷◌, get_or, Ok, Option, sym, refl, ap, ◌∙◌, subst, arith}
use Rattle.std.specs.List.{AllByRecursion}
use Rattle.kinds.specs.Bytes.{number2, number4, Bytes, part}
use Rattle.kinds.specs.Forms.{Form}
use Rattle.kinds.specs.Stamps.{Order, Ordered}
use Rattle.kinds.specs.Bounds.{NotAfter}
use Rattle.law.proofs.StampOrder.{le_trans}
use Rattle.law.specs.Daybook.{AcceptedJob}
use Rattle.law.specs.Account.{NeverFalls}
use Rattle.law.specs.Promises.{NeatJob, look_numbers, put_numbers}
use Rattle.archive.specs.declared.blocks.Opened.{Opened}
use Rattle.archive.specs.Directory.{stated_length}
use Rattle.archive.specs.Values.{read_values}
use Rattle.archive.specs.Names.{numbers, names_right}
use Rattle.archive.specs.Blocks.{all_noted, read_blocks}
use Rattle.archive.specs.Journal.{stated_looks, stated_puts, stated_job, seen_job, stated_jobs}
use Rattle.archive.proofs.Stands.{bytes_part}
use Rattle.archive.proofs.KnownEntries.{look_says, put_says}
use Rattle.archive.proofs.KnownBlocks.{BlockSays, first_says}
use Rattle.readback.proofs.BackNames.{every}
use Rattle.readback.proofs.NamesSay.{different, names_say}

module _ {S R : Type 0} (o : Order S) (f : Form R) (bs : List ℕ) where
  -- the looks and the puts that are stated have the numbers that stand there
  looks_numbered : (m at : ℕ) → all_noted o bs at m ≡ true → read_values f bs (at + 10) 22 m ≡ Ok tt → look_numbers (stated_looks o f bs at m) ≡ numbers bs at 22 m
  looks_numbered zero at h q = refl
  looks_numbered (suc m) at h q = let z = look_says o f bs m at h q in ap look_numbers z.states ∙ ap (λ ns. number2 (part bs at 2) ∷ ns) (looks_numbered m (at + 22) z.noted z.rest)

  puts_numbered : (m at : ℕ) → read_values f bs (at + 2) 14 m ≡ Ok tt → put_numbers (stated_puts o f bs at m) ≡ numbers bs at 14 m
  puts_numbered zero at q = refl
  puts_numbered (suc m) at q = let z = put_says o f bs m at q in ap put_numbers z.states ∙ ap (λ ns. number2 (part bs at 2) ∷ ns) (puts_numbered m (at + 14) z.rest)

  -- the job of a block is neat
  job_neat : (n at len : ℕ) (low : S) (h : Opened S) (b : BlockSays o f bs n at len low h) → NeatJob o n (stated_job o f bs at b.stamp)
  job_neat n at len low h b =
      let r : ℕ = get_or bs (at + 12) 0 in
      let p : ℕ = get_or bs (at + 13) 0 in
      let ls : List ℕ = look_numbers (stated_looks o f bs (at + 16) r) in
      let ps : List ℕ = put_numbers (stated_puts o f bs (at + 16 + 22 * r) p) in
      let el : ls ≡ numbers bs (at + 16) 22 r = looks_numbered r (at + 16) b.noted b.look_values in
      let ep : ps ≡ numbers bs (at + 16 + 22 * r) 14 p = puts_numbered p (at + 16 + 22 * r) b.put_values in
      let right : names_right n ls ps ≡ true = ap (λ xs. names_right n xs ps) el ∙ ap (names_right n (numbers bs (at + 16) 22 r)) ep ∙ b.names in
      let z = names_say ls ps n right in
      record {
        risen = b.risen;
        ticketed = b.ticketed;
        looks_apart = z.looks_apart;
        puts_apart = z.puts_apart;
        named = different ls ps;
        few = z.few;
        looks_named = z.looks_named;
        puts_named = z.puts_named;
        inside = z.inside;
      }

  -- its ticket has four bytes
  ticket_small : Bytes bs → (at : ℕ) → number4 (part bs at 4) < 4294967296
  ticket_small t at = let b = bytes_part bs t at 4 in let b0 = b 0 in let b1 = b 1 in let b2 = b 2 in let b3 = b 3 in omega arith

  -- jobs behind one of a stamp
  pub record JobsSay (n : ℕ) (low : S) (js : List (AcceptedJob S R)) : Type 0 where
    pub neat : AllByRecursion (NeatJob o n) js
    pub ticketed : AllByRecursion (λ (a : AcceptedJob S R). a.ticket < 4294967296) js
    pub after : AllByRecursion (λ (a : AcceptedJob S R). NotAfter o low a.stamp) js
    pub never_falls : NeverFalls o js

  job_more : Ordered o → (n : ℕ) (low : S) (a : AcceptedJob S R) (js : List (AcceptedJob S R)) → NeatJob o n a → a.ticket < 4294967296 → NotAfter o low a.stamp → JobsSay n a.stamp js → JobsSay n low (a ∷ js)
  job_more laws n low a js neat small after h =
      record {
        neat = (neat, h.neat);
        ticketed = (small, h.ticketed);
        after = (after, every (λ (b : AcceptedJob S R). NotAfter o a.stamp b.stamp) (λ (b : AcceptedJob S R). NotAfter o low b.stamp) (λ b l. le_trans o laws low a.stamp b.stamp after l) js h.after);
        never_falls = (h.after, h.never_falls);
      }

  pub jobs_say : Ordered o → Bytes bs → (m dir at n end : ℕ) (low : S) → read_blocks o f bs n dir at low m ≡ Ok end → JobsSay n low (stated_jobs o f bs dir at m)
  jobs_say laws t zero dir at n end low q = record { neat = tt; ticketed = tt; after = tt; never_falls = tt }
  jobs_say laws t (suc m) dir at n end low q =
      let z = first_says o f bs dir at n m end low q in
      let s = z.block in
      let rest : List (AcceptedJob S R) = stated_jobs o f bs (dir + 8) (at + stated_length bs dir) m in
      let ih : JobsSay n z.opened.stamp rest = jobs_say laws t m (dir + 8) (at + stated_length bs dir) n end z.opened.stamp z.rest in
      subst (λ (u : Option S). JobsSay n low (seen_job o f bs at u rest)) (sym s.stamped)
      (job_more laws n low (stated_job o f bs at s.stamp) rest (job_neat n at (stated_length bs dir) low z.opened s) (ticket_small t (at + 8)) s.after (subst (λ (x : S). JobsSay n x rest) (sym s.opens) ih))
