-- A block that stands at a place is accepted there, and states its job.
use Rattle.std.proofs.Common.{◌≡◌, ℕ, ◌+◌, ◌*◌, ◌<◌, ◌≤◌, true, cond, leb, List, [], ◌∷◌, length, get_or, Some, Ok, Err, sym, ap, ◌∙◌, subst, arith}
use Rattle.std.proofs.lemmas.Bool.{and_from, not_from_false, cond-true, eq-eqb, le-leb}
use Rattle.kinds.specs.Bytes.{number4, part}
use Rattle.kinds.specs.Forms.{Form, Formed}
use Rattle.kinds.specs.Stamps.{Order, Ordered, Same}
use Rattle.kinds.specs.Bounds.{NotAfter}
use Rattle.law.specs.Daybook.{AcceptedJob}
use Rattle.law.specs.Promises.{NeatJob, look_numbers}
use Rattle.archive.specs.declared.fault.Fault.TheVariants.{BlockWrong}
use Rattle.archive.specs.declared.blocks.Opened.{Opened}
use Rattle.archive.specs.Faults.{onward}
use Rattle.archive.specs.Values.{read_values}
use Rattle.archive.specs.Names.{numbers, names_right}
use Rattle.archive.specs.Blocks.{stamp_at, front_right, with_stamp, read_front, names_of, read_block}
use Rattle.archive.specs.Journal.{block_bytes, stated_looks, stated_puts, stated_job}
use Rattle.archive.proofs.Fields.{reads4}
use Rattle.archive.proofs.Long.{block_long}
use Rattle.archive.proofs.Places.{look_values_at, put_values_at}
use Rattle.readback.specs.ReadsBack.{Each, AlikeLook, AlikePut, AlikeJob}
use Rattle.readback.proofs.BackFields.{byte_at, ReadAs, reads_form}
use Rattle.readback.proofs.BackRows.{LooksBack, PutsBack, looks_back, puts_back}
use Rattle.readback.proofs.BackParts.{BlockParts}
use Rattle.readback.proofs.BackNames.{looks_inside, puts_inside, names_back, few_looks, few_puts}
use Rattle.readback.proofs.BackOrder.{same_not_after, same_risen}

abbrev pub opened : {S : Type 0} → S → ℕ → ℕ → Opened S
opened s r p = record { stamp = s; looks = r; puts = p }

module _ {S R : Type 0} (o : Order S) (f : Form R) (bs : List ℕ) where
  abbrev pub length_of : AcceptedJob S R → ℕ
  length_of a = length (block_bytes o f a)

  -- what the rule answers at a block behind one of a stamp, and what the block states
  pub record BlockBack (n at : ℕ) (low : S) (a : AcceptedJob S R) : Type 0 where
    pub stamp : S
    pub alike : Same o stamp a.stamp
    pub is : stamp_at o bs at ≡ Some stamp
    pub front : read_front o bs at (length_of a) low ≡ Ok (opened stamp (length a.looks) (length a.puts))
    pub block : read_block o f bs n at (length_of a) low ≡ Ok (opened stamp (length a.looks) (length a.puts))
    pub stated : AlikeJob o f (stated_job o f bs at stamp) a
    pub parts : BlockParts o f bs at a

  -- readers whose tests are met
  front_met : (at len : ℕ) (low s : S) (r p : ℕ) → 16 ≤ len → stamp_at o bs at ≡ Some s → front_right o bs at len low s ≡ true → get_or bs (at + 12) 0 ≡ r → get_or bs (at + 13) 0 ≡ p
      → read_front o bs at len low ≡ Ok (opened s r p)
  front_met at len low s r p h e q er ep =
      cond-true (leb 16 len) (with_stamp o bs at len low (stamp_at o bs at)) (Err (BlockWrong at)) (le-leb 16 len h)
      ∙ ap (with_stamp o bs at len low) e
      ∙ cond-true (front_right o bs at len low s) (Ok (opened s (get_or bs (at + 12) 0) (get_or bs (at + 13) 0))) (Err (BlockWrong at)) q
      ∙ ap (λ n. Ok (opened s n (get_or bs (at + 13) 0))) er
      ∙ ap (λ n. Ok (opened s r n)) ep

  block_met : (n at len : ℕ) (low : S) (h : Opened S) → read_front o bs at len low ≡ Ok h → names_of o bs n at h.looks h.puts ≡ true
      → read_values f bs (at + 26) 22 h.looks ≡ Ok tt → read_values f bs (at + 18 + 22 * h.looks) 14 h.puts ≡ Ok tt → read_block o f bs n at len low ≡ Ok h
  block_met n at len low h e q v w =
      ap (λ r. onward r (λ x. cond (names_of o bs n at x.looks x.puts) (onward (read_values f bs (at + 26) 22 x.looks) (λ _. onward (read_values f bs (at + 18 + 22 * x.looks) 14 x.puts) (λ _. Ok x))) (Err (BlockWrong at)))) e
      ∙ cond-true (names_of o bs n at h.looks h.puts) (onward (read_values f bs (at + 26) 22 h.looks) (λ _. onward (read_values f bs (at + 18 + 22 * h.looks) 14 h.puts) (λ _. Ok h))) (Err (BlockWrong at)) q
      ∙ ap (λ r. onward r (λ _. onward (read_values f bs (at + 18 + 22 * h.looks) 14 h.puts) (λ _. Ok h))) v
      ∙ ap (λ r. onward r (λ _. Ok h)) w

  -- a neat job's block, behind one whose stamp is not after its own
  module _ (laws : Ordered o) (formed : Formed 12 f) (n : ℕ) (some : n ≤ 65536) (at : ℕ) (low prev : S) (a : AcceptedJob S R)
      (same : Same o low prev) (after : NotAfter o prev a.stamp) (neat : NeatJob o n a) (small : a.ticket < 4294967296) (parts : BlockParts o f bs at a) where
    long : length_of a ≡ 16 + 22 * length a.looks + 14 * length a.puts
    long = block_long o f laws.formed formed a

    size_at : (i k : ℕ) → i ≡ at + 12 + k → k < 4 → get_or bs i 0 ≡ get_or (length a.looks ∷ length a.puts ∷ 0 ∷ 0 ∷ []) k 0
    size_at i k e h = ap (λ m. get_or bs m 0) e ∙ byte_at bs (at + 12) k (length a.looks ∷ length a.puts ∷ 0 ∷ 0 ∷ []) parts.sizes h

    looks_there : get_or bs (at + 12) 0 ≡ length a.looks
    looks_there = size_at (at + 12) 0 (omega arith) (omega arith)

    puts_there : get_or bs (at + 13) 0 ≡ length a.puts
    puts_there = size_at (at + 13) 1 (omega arith) (omega arith)

    zeros_there : (get_or bs (at + 14) 0 ≡ 0) × (get_or bs (at + 15) 0 ≡ 0)
    zeros_there = (size_at (at + 14) 2 (omega arith) (omega arith), size_at (at + 15) 3 (omega arith) (omega arith))

    ticket_there : number4 (part bs (at + 8) 4) ≡ a.ticket
    ticket_there = reads4 bs (at + 8) a.ticket small parts.ticket

    stamp_there : ReadAs o.form (part bs at 8) a.stamp
    stamp_there = reads_form 8 o.form laws.formed bs at a.stamp parts.stamp

    front_is_right : front_right o bs at (length_of a) low stamp_there.value ≡ true
    front_is_right =
        let e = long in
        let r = looks_there in
        let p = puts_there in
        let t = ticket_there in
        let t1 = neat.ticketed in
        let fr = few_looks o n a neat in
        let fp = few_puts o n a neat in
        and_from _ _ (same_risen o laws stamp_there.value a.stamp stamp_there.alike neat.risen)
        (and_from _ _ (not_from_false (o.before stamp_there.value low) (same_not_after o laws prev a.stamp low stamp_there.value (sym same) (sym stamp_there.alike) after))
        (and_from _ _ (le-leb 1 (number4 (part bs (at + 8) 4)) (omega arith))
        (and_from _ _ (eq-eqb _ 0 zeros_there.0)
        (and_from _ _ (eq-eqb _ 0 zeros_there.1)
        (and_from _ _ (le-leb (get_or bs (at + 12) 0) 16 (omega arith))
        (and_from _ _ (le-leb (get_or bs (at + 13) 0) 16 (omega arith))
        (eq-eqb _ _ (omega arith))))))))

    front_there : read_front o bs at (length_of a) low ≡ Ok (opened stamp_there.value (length a.looks) (length a.puts))
    front_there = let e = long in front_met at (length_of a) low stamp_there.value (length a.looks) (length a.puts) (omega arith) stamp_there.is front_is_right looks_there puts_there

    looks_read : LooksBack o f bs (at + 16) a.looks
    looks_read = looks_back o f bs laws.formed formed n some a.looks (at + 16) (looks_inside o n a neat) parts.looks

    puts_read : PutsBack o f bs (at + 16 + 22 * length a.looks) a.puts
    puts_read = puts_back o f bs laws.formed formed n some a.puts (at + 16 + 22 * length a.looks) (puts_inside o n a neat) parts.puts

    names_there : names_of o bs n at (length a.looks) (length a.puts) ≡ true
    names_there =
        and_from _ _
        (ap (λ xs. names_right n xs (numbers bs (at + 16 + 22 * length a.looks) 14 (length a.puts))) looks_read.named ∙ ap (λ ys. names_right n (look_numbers a.looks) ys) puts_read.named ∙ names_back o n a neat)
        looks_read.noted

    block_there : read_block o f bs n at (length_of a) low ≡ Ok (opened stamp_there.value (length a.looks) (length a.puts))
    block_there =
        block_met n at (length_of a) low (opened stamp_there.value (length a.looks) (length a.puts)) front_there names_there
        (ap (λ m. read_values f bs m 22 (length a.looks)) (look_values_at at) ∙ looks_read.values)
        (ap (λ m. read_values f bs m 14 (length a.puts)) (put_values_at at (length a.looks)) ∙ puts_read.values)

    job_stated : AlikeJob o f (stated_job o f bs at stamp_there.value) a
    job_stated =
        record {
          stamp = stamp_there.alike;
          ticket = ticket_there;
          looks = subst (λ (r : ℕ). Each (AlikeLook o f) (stated_looks o f bs (at + 16) r) a.looks) (sym looks_there) looks_read.stated;
          puts = subst (λ (r : ℕ). Each (AlikePut f) (stated_puts o f bs (at + 16 + 22 * r) (get_or bs (at + 13) 0)) a.puts) (sym looks_there)
              (subst (λ (p : ℕ). Each (AlikePut f) (stated_puts o f bs (at + 16 + 22 * length a.looks) p) a.puts) (sym puts_there) puts_read.stated);
        }

    pub block_back : BlockBack n at low a
    block_back = record { stamp = stamp_there.value; alike = stamp_there.alike; is = stamp_there.is; front = front_there; block = block_there; stated = job_stated; parts = parts }
