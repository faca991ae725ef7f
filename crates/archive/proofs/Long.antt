-- How long looks, puts and blocks are, and how many values were read.
use Rattle.std.proofs.Common.{◌≡◌, ℕ, zero, suc, ◌+◌, ◌*◌, List, [], ◌∷◌, ◌++◌, length, Ok, refl, ap, ◌∙◌, mul-suc, arith}
use Rattle.std.specs.List.{flat_map}
use Rattle.std.proofs.lemmas.List.{length-append}
use Rattle.kinds.specs.Bytes.{be4, part}
use Rattle.kinds.specs.Forms.{Form, Formed}
use Rattle.kinds.specs.Stamps.{Order}
use Rattle.law.specs.Daybook.{Look, Put, AcceptedJob}
use Rattle.archive.specs.Values.{read_values, value_first, stated_values}
use Rattle.archive.specs.Journal.{look_bytes, put_bytes, block_bytes}
use Rattle.archive.proofs.Fields.{value_met}

module _ {S R : Type 0} (o : Order S) (f : Form R) (laws : Formed 8 o.form) (formed : Formed 12 f) where
  pub look_long : (l : Look S R) → length (look_bytes o f l) ≡ 22
  look_long l = let w = formed.wide l.saw.value in let x = laws.wide l.saw.stamp in let a = length-append (o.form.written l.saw.stamp) (f.written l.saw.value) in omega arith

  pub put_long : (p : Put R) → length (put_bytes o f p) ≡ 14
  put_long p = let w = formed.wide p.value in omega arith

  pub looks_long : (ls : List (Look S R)) → length (flat_map (look_bytes o f) ls) ≡ 22 * length ls
  looks_long [] = refl
  looks_long (l ∷ ls) = let a = length-append (look_bytes o f l) (flat_map (look_bytes o f) ls) in let b = look_long l in let c = looks_long ls in let m = mul-suc 22 (length ls) in omega arith

  puts_long : (ls : List (Put R)) → length (flat_map (put_bytes o f) ls) ≡ 14 * length ls
  puts_long [] = refl
  puts_long (l ∷ ls) = let a = length-append (put_bytes o f l) (flat_map (put_bytes o f) ls) in let b = put_long l in let c = puts_long ls in let m = mul-suc 14 (length ls) in omega arith

  pub block_long : (j : AcceptedJob S R) → length (block_bytes o f j) ≡ 16 + 22 * length j.looks + 14 * length j.puts
  block_long j =
      let a = length-append (flat_map (look_bytes o f) j.looks) (flat_map (put_bytes o f) j.puts) in let b = looks_long j.looks in let c = puts_long j.puts in let w = laws.wide j.stamp in let d = length-append (o.form.written j.stamp) (be4 j.ticket ++ ((length j.looks ∷ length j.puts ∷ 0 ∷ 0 ∷ []) ++ (flat_map (look_bytes o f) j.looks ++ flat_map (put_bytes o f) j.puts))) in omega arith

-- so many values that were read are so many values
module _ {R : Type 0} (f : Form R) (bs : List ℕ) where
  pub values_long : (n at : ℕ) → read_values f bs at 12 n ≡ Ok tt → length (stated_values f bs at 12 n) ≡ n
  values_long zero at q = refl
  values_long (suc n) at q =
      let v = value_met at (f.read (part bs at 12)) (read_values f bs (at + 12) 12 n) q in
      ap (λ p. length (value_first p (stated_values f bs (at + 12) 12 n))) v.1 ∙ ap suc (values_long n (at + 12) v.2)
