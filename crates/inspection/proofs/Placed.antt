-- Each fault of an inspection stands at a place.
use Rattle.std.proofs.Common.{◌≡◌, ℕ, zero, suc, ◌+◌, ◌-◌, ◌*◌, Bool, true, false, cond, ◌&&◌, ◌==◌, List, length, drop, Some, None, Ok, Err, Option, Result, sym, refl, subst}
use Rattle.std.specs.Prelude.{IfErr, nat_le, slice_index}
use Rattle.std.specs.Option.{ok_or}
use Rattle.kinds.specs.Forms.{Form}
use Rattle.kinds.specs.Stamps.{Order}
use Rattle.kinds.specs.Values.{RecordKind}
use Rattle.kinds.specs.Bytes.{number2, part}
use Rattle.kinds.specs.Card.{card_kind}
use Rattle.kinds.specs.Item.{item_kind}
use Rattle.archive.specs.declared.fault.Fault.{Fault}
use Rattle.archive.specs.declared.fault.Fault.TheVariants.{HeadingWrong, PairWrong, BlockWrong, ValueWrong, NotBorneOut}
use Rattle.archive.specs.declared.heading.Heading.{Heading}
use Rattle.archive.specs.declared.blocks.Opened.{Opened}
use Rattle.archive.specs.Faults.{onward}
use Rattle.archive.specs.Heading.{sizes_right, mark_right, kinds_right, records_in, jobs_in, read_sizes, read_heading}
use Rattle.archive.specs.Directory.{pair_right, stated_length, read_pair, read_pairs, read_directory}
use Rattle.archive.specs.Values.{read_values}
use Rattle.archive.specs.Blocks.{stamp_at, front_right, with_stamp, read_front, names_of, read_block, read_blocks}
use Rattle.archive.specs.Play.{opening_table, look_borne, read_look, read_looks, puts_after, play_jobs}
use Rattle.archive.specs.Rule.{read_archive, inspected}
use Rattle.inspection.specs.Kinds.{HasPlace, inspected_under}

abbrev pub Placed : {A : Type 0} → Result A Fault → Type 0
Placed r = IfErr r HasPlace

on : {A B : Type 0} (r : Result A Fault) (f : A → Result B Fault) → Placed r → ((x : A) → Placed (f x)) → Placed (onward r f)
on (Ok x) f p q = q x
on (Err e) f p q = p

either : {A : Type 0} (b : Bool) (r s : Result A Fault) → Placed r → Placed s → Placed (cond b r s)
either true r s p q = p
either false r s p q = q

or_fault : {A : Type 0} (b : Bool) (r : Result A Fault) (e : Fault) → Placed r → HasPlace e → Placed (cond b r (Err e))
or_fault b r e p q = either b r (Err e) p q

sizes : (bs : List ℕ) → Placed (read_sizes bs)
sizes bs = or_fault {A = Heading} (sizes_right bs) (Ok (record { records = records_in bs; jobs = jobs_in bs })) HeadingWrong tt refl

heading : (stamps values : ℕ) (bs : List ℕ) → Placed (read_heading stamps values bs)
heading stamps values bs =
    or_fault (nat_le 6 (length bs) && (mark_right bs && kinds_right stamps values bs)) (read_sizes (drop 6 bs)) HeadingWrong (sizes (drop 6 bs)) refl

pair : (bs : List ℕ) (at from : ℕ) (last : Bool) → Placed (read_pair bs at from last)
pair bs at from last = or_fault {A = ℕ} (pair_right bs at from last) (Ok (from + stated_length bs at)) (PairWrong at) tt refl

pairs : (bs : List ℕ) (at from m : ℕ) → Placed (read_pairs bs at from m)
pairs bs at from zero = tt
pairs bs at from (suc m) = on _ (λ end. read_pairs bs (at + 8) end m) (pair bs at from (m == 0)) (λ end. pairs bs (at + 8) end m)

directory : (bs : List ℕ) (n j : ℕ) → Placed (read_directory bs n j)
directory bs n j =
    on _ (λ end. cond (end == 20 + 8 * j + 12 * n) (read_pairs bs 20 end j) (Err (PairWrong 12))) (pair bs 12 (20 + 8 * j) (j == 0)) (λ end.
    or_fault (end == 20 + 8 * j + 12 * n) (read_pairs bs 20 end j) (PairWrong 12) (pairs bs 20 end j) refl)

module _ {R : Type 0} (f : Form R) (bs : List ℕ) where
  value : (v : Option R) (at : ℕ) → Placed (ok_or v (ValueWrong at))
  value (Some v) at = tt
  value None at = refl

  values : (at step m : ℕ) → Placed (read_values f bs at step m)
  values at step zero = tt
  values at step (suc m) = on _ _ (value (f.read (part bs at 12)) at) (λ _. values (at + step) step m)

module _ {S : Type 0} (o : Order S) (bs : List ℕ) where
  stamped : (at len : ℕ) (low : S) (s : Option S) → Placed (with_stamp o bs at len low s)
  stamped at len low None = refl
  stamped at len low (Some s) =
      or_fault {A = Opened S} (front_right o bs at len low s) (Ok (record { stamp = s; looks = slice_index bs (at + 12); puts = slice_index bs (at + 13) })) (BlockWrong at) tt refl

  front : (at len : ℕ) (low : S) → Placed (read_front o bs at len low)
  front at len low = or_fault (nat_le 16 len) (with_stamp o bs at len low (stamp_at o bs at)) (BlockWrong at) (stamped at len low (stamp_at o bs at)) refl

  look : (at : ℕ) (table : List ℕ) → Placed (read_look bs at table)
  look at table = or_fault {A = Unit {0}} (look_borne bs at table (number2 (part bs at 2))) (Ok tt) (NotBorneOut at) tt refl

  looks : (at : ℕ) (table : List ℕ) (m : ℕ) → Placed (read_looks bs at table m)
  looks at table zero = tt
  looks at table (suc m) = on _ _ (look at table) (λ _. looks (at + 22) table m)

  jobs : (dir at : ℕ) (low : S) (table : List ℕ) (m : ℕ) → Placed (play_jobs o bs dir at low table m)
  jobs dir at low table zero = tt
  jobs dir at low table (suc m) =
      on _ _ (pair bs dir at (m == 0)) (λ end. on _ _ (front at (end - at) low) (λ h. on _ _ (looks (at + 16) table h.looks) (λ _.
      jobs (dir + 8) end h.stamp (puts_after bs at (at + 16 + 22 * h.looks) table h.puts) m)))

module _ {S R : Type 0} (o : Order S) (f : Form R) (bs : List ℕ) where
  block : (n at len : ℕ) (low : S) → Placed (read_block o f bs n at len low)
  block n at len low =
      on _ _ (front o bs at len low) (λ h.
      or_fault (names_of o bs n at h.looks h.puts)
      (onward (read_values f bs (at + 26) 22 h.looks) (λ _. onward (read_values f bs (at + 18 + 22 * h.looks) 14 h.puts) (λ _. Ok h))) (BlockWrong at)
      (on _ _ (values f bs (at + 26) 22 h.looks) (λ _. on _ _ (values f bs (at + 18 + 22 * h.looks) 14 h.puts) (λ _. tt))) refl)

  blocks : (n dir at : ℕ) (low : S) (m : ℕ) → Placed (read_blocks o f bs n dir at low m)
  blocks n dir at low zero = tt
  blocks n dir at low (suc m) =
      on _ _ (pair bs dir at (m == 0)) (λ end. on _ _ (block n at (end - at) low) (λ h. blocks n (dir + 8) end h.stamp m))

module _ {S R : Type 0} (o : Order S) (k : RecordKind R) (bs : List ℕ) where
  archive : Placed (read_archive o k bs)
  archive =
      on _ _ (heading o.number k.number bs) (λ h.
      on _ _ (directory bs h.records h.jobs) (λ _.
      on _ _ (values k.form bs (20 + 8 * h.jobs) 12 h.records) (λ _.
      on _ _ (blocks o k.form bs h.records 20 (20 + 8 * h.jobs + 12 * h.records) o.least h.jobs) (λ _. tt))))

  whole : Placed (inspected o k bs)
  whole =
      on _ _ archive (λ h.
      on _ _ (jobs o bs 20 (20 + 8 * h.jobs + 12 * h.records) o.least (opening_table (o.form.written o.least) bs (20 + 8 * h.jobs) h.records) h.jobs) (λ _. tt))

under : {S : Type 0} (o : Order S) (records : ℕ) (bs : List ℕ) → Placed (inspected_under o records bs)
under o records bs =
    either (records == 1) (inspected o card_kind bs) (cond (records == 2) (inspected o item_kind bs) (Err HeadingWrong)) (whole o card_kind bs)
    (or_fault (records == 2) (inspected o item_kind bs) HeadingWrong (whole o item_kind bs) refl)

-- what was answered by the number of a record kind
pub under_placed : {S : Type 0} (o : Order S) (records : ℕ) (bs : List ℕ) (r : Result ℕ Fault) → r ≡ inspected_under o records bs → Placed r
under_placed o records bs r e = subst (λ x. Placed x) (sym e) (under o records bs)
