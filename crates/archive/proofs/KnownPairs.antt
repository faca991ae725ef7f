-- What is known of a pair that was read.
use Rattle.std.proofs.Common.{◌≡◌, ℕ, ◌+◌, ◌≤◌, Bool, true, false, cond, eqb, leb, List, length, Ok, ◌∙◌, sym, subst, arith}
use Rattle.std.proofs.lemmas.Bool.{and_parts, leb-true, eqb-true}
use Rattle.kinds.specs.Bytes.{number4, part}
use Rattle.archive.specs.declared.fault.Fault.TheVariants.{PairWrong}
use Rattle.archive.specs.Directory.{stated_length, pair_right, read_pair}
use Rattle.archive.proofs.Fields.{guarded, ok_same}

-- it is whole, where its part starts and ends, and that the last part ends with the archive
pub record PairSays (bs : List ℕ) (at from end : ℕ) (last : Bool) : Type 0 where
  pub whole : at + 8 ≤ length bs
  pub starts : number4 (part bs at 4) ≡ from
  pub ends : from + stated_length bs at ≡ end
  pub within : end ≤ length bs
  pub closes : last ≡ true → end ≡ length bs

when_last : (b x : Bool) → cond b x true ≡ true → b ≡ true → x ≡ true
when_last true x h e = h
when_last false x h e = let z : ◌≡◌ {A = ℕ} 0 1 = cc in absurd (omega arith)

pub pair_says : (bs : List ℕ) (at from end : ℕ) (last : Bool) → read_pair bs at from last ≡ Ok end → PairSays bs at from end last
pair_says bs at from end last q =
    let g = guarded (pair_right bs at from last) (Ok (from + stated_length bs at)) (PairWrong at) end q in
    let a = and_parts (leb (at + 8) (length bs)) _ g.0 in
    let b = and_parts (eqb (number4 (part bs at 4)) from) _ a.1 in
    let c = and_parts (leb (from + stated_length bs at) (length bs)) _ b.1 in
    let e : from + stated_length bs at ≡ end = ok_same _ _ g.1 in
    let P : ℕ → Type 0 = λ n. n ≤ length bs in
    record {
      whole = leb-true _ _ a.0;
      starts = eqb-true _ _ b.0;
      ends = e;
      within = subst P e (leb-true _ _ c.0);
      closes = λ l. sym e ∙ eqb-true _ _ (when_last last (eqb (from + stated_length bs at) (length bs)) c.1 l);
    }
