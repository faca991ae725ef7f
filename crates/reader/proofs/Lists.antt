-- The looks and the puts that bytes state, one by one.
use Rattle.std.proofs.Common.{◌≡◌, ℕ, zero, suc, ◌+◌, ◌*◌, ◌<◌, true, List, Some, Ok, sym, ap, ◌∙◌, mul-zero, mul-suc, arith}
use Rattle.std.specs.List.{slice_get}
use Rattle.std.specs.Option.{option_map}
use Rattle.kinds.specs.Bytes.{number2, part}
use Rattle.kinds.specs.Forms.{Form}
use Rattle.kinds.specs.Stamps.{Order}
use Rattle.archive.specs.Values.{read_values}
use Rattle.archive.specs.Blocks.{all_noted}
use Rattle.archive.specs.Journal.{stated_looks, stated_puts}
use Rattle.archive.proofs.KnownEntries.{look_says, put_says}
use Rattle.reader.specs.declared.puts.Put.{Put}
use Rattle.reader.specs.Shown.{look_shown, look_if, look_at, put_shown, put_at}

module _ {S R : Type 0} (o : Order S) (f : Form R) (bs : List ℕ) where
  pub look_told : (m at i : ℕ) → i < m → all_noted o bs at m ≡ true → read_values f bs (at + 10) 22 m ≡ Ok tt
      → option_map look_shown (slice_get (stated_looks o f bs at m) i) ≡ look_at o f bs (at + 22 * i)
  look_told zero at i l h q = absurd (omega arith)
  look_told (suc m) at zero l h q =
      let z = look_says o f bs m at h q in
      let e : at ≡ at + 22 * zero = omega (arith, mul-zero 22) in
      let here : look_at o f bs at ≡ look_if (number2 (part bs at 2)) (Some z.stamp) (Some z.value)
      = ap (λ u. look_if (number2 (part bs at 2)) u (f.read (part bs (at + 10) 12))) z.stamped ∙ ap (look_if (number2 (part bs at 2)) (Some z.stamp)) z.valued in
      ap (λ ls. option_map look_shown (slice_get ls zero)) z.states ∙ sym here ∙ ap (look_at o f bs) e
  look_told (suc m) at (suc i) l h q =
      let z = look_says o f bs m at h q in
      let e : at + 22 + 22 * i ≡ at + 22 * suc i = omega (arith, mul-suc 22 i) in
      ap (λ ls. option_map look_shown (slice_get ls (suc i))) z.states ∙ look_told m (at + 22) i (omega arith) z.noted z.rest ∙ ap (look_at o f bs) e

  pub put_told : (m at i : ℕ) → i < m → read_values f bs (at + 2) 14 m ≡ Ok tt → option_map put_shown (slice_get (stated_puts o f bs at m) i) ≡ put_at f bs (at + 14 * i)
  put_told zero at i l q = absurd (omega arith)
  put_told (suc m) at zero l q =
      let z = put_says o f bs m at q in
      let e : at ≡ at + 14 * zero = omega (arith, mul-zero 14) in
      ap (λ ps. option_map put_shown (slice_get ps zero)) z.states
      ∙ sym (ap (option_map (λ w. let p : Put R = record { number = number2 (part bs at 2); value = w } in p)) z.valued) ∙ ap (put_at f bs) e
  put_told (suc m) at (suc i) l q =
      let z = put_says o f bs m at q in
      let e : at + 14 + 14 * i ≡ at + 14 * suc i = omega (arith, mul-suc 14 i) in
      ap (λ ps. option_map put_shown (slice_get ps (suc i))) z.states ∙ put_told m (at + 14) i (omega arith) z.rest ∙ ap (put_at f bs) e
