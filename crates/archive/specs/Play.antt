-- The play of an archive: a table of what stands at each record, 20 bytes each, the written stamp and the written value.
use Rattle.std.specs.Prelude.{ℕ, zero, suc, ◌+◌, ◌-◌, ◌*◌, Bool, cond, ◌&&◌, List, [], ◌++◌, length, drop, Ok, Err, Result, ◌==◌, nat_le}
use Rattle.std.specs.Str.{bytes_eq}
use Rattle.kinds.specs.Bytes.{number2, part}
use Rattle.kinds.specs.Stamps.{Order}
use Rattle.archive.specs.declared.fault.Fault.{Fault}
use Rattle.archive.specs.declared.fault.Fault.TheVariants.{NotBorneOut}
use Rattle.archive.specs.Faults.{onward}
use Rattle.archive.specs.Laying.{laid_over}
use Rattle.archive.specs.Directory.{read_pair}
use Rattle.archive.specs.Blocks.{read_front}

abbrev pub alike : List ℕ → List ℕ → Bool
alike xs ys = bytes_eq xs ys

-- at first the opening values, every stamp least
abbrev pub opening_table : List ℕ → List ℕ → ℕ → ℕ → List ℕ
opening_table least bs at zero = []
opening_table least bs at (suc m) = (least ++ part bs at 12) ++ opening_table least bs (at + 12) m

-- a look shows what stands at its record, behind its record number
abbrev pub look_borne : List ℕ → ℕ → List ℕ → ℕ → Bool
look_borne bs at table x = nat_le (20 * x + 20) (length table) && alike (part table (20 * x) 20) (part bs (at + 2) 20)

abbrev pub read_look : List ℕ → ℕ → List ℕ → Result (Unit {0}) Fault
read_look bs at table = cond (look_borne bs at table (number2 (part bs at 2))) (Ok tt) (Err (NotBorneOut at))

abbrev pub read_looks : List ℕ → ℕ → List ℕ → ℕ → Result (Unit {0}) Fault
read_looks bs at table zero = Ok tt
read_looks bs at table (suc m) = onward (read_look bs at table) (λ _. read_looks bs (at + 22) table m)

-- a put enters its value under the stamp of its block
abbrev pub put_in : List ℕ → ℕ → ℕ → List ℕ → ℕ → List ℕ
put_in bs block at table x = cond (nat_le (20 * x + 20) (length table)) (laid_over (20 * x) (part bs block 8 ++ part bs (at + 2) 12) table) table

-- the same, of the bytes of a stamp and of a put
abbrev pub entered : List ℕ → List ℕ → List ℕ → List ℕ
entered stamp table put = cond (nat_le (20 * number2 put + 20) (length table)) (laid_over (20 * number2 put) (stamp ++ drop 2 put) table) table

abbrev pub puts_after : List ℕ → ℕ → ℕ → List ℕ → ℕ → List ℕ
puts_after bs block at table zero = table
puts_after bs block at table (suc m) = puts_after bs block (at + 14) (put_in bs block at table (number2 (part bs at 2))) m

-- the table after what was answered: the first where it was Ok, else the second
abbrev pub by_answer : {X : Type 0} → Result (Unit {0}) Fault → X → X → X
by_answer (Ok u) x y = x
by_answer (Err e) x y = y

-- so many blocks in turn: the looks of each, then its puts
abbrev pub play_jobs : {S : Type 0} → Order S → List ℕ → ℕ → ℕ → S → List ℕ → ℕ → Result (Unit {0}) Fault
play_jobs o bs dir at low table zero = Ok tt
play_jobs o bs dir at low table (suc m) =
    onward (read_pair bs dir at (m == 0)) (λ end. onward (read_front o bs at (end - at) low) (λ h. onward (read_looks bs (at + 16) table h.looks) (λ _.
    play_jobs o bs (dir + 8) end h.stamp (puts_after bs at (at + 16 + 22 * h.looks) table h.puts) m)))
