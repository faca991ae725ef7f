use Rattle.std.proofs.Common.{◌≡◌, ℕ, IfOk, Ok, Err, Result, sym, refl, ◌∙◌, arith}
use Rattle.kinds.specs.Bytes.{Bytes}
use Rattle.archive.specs.declared.fault.Fault.{Fault}
use Rattle.archive.proofs.OneForm.{one_form}
use Rattle.archive.proofs.inspect.inspect.Goals as goal

of_made : {P : ℕ → Type 0} (r : Result ℕ Fault) → ((j : ℕ) → r ≡ Ok j → P j) → IfOk r P
of_made (Ok j) h = h j refl
of_made (Err e) h = tt

pub returns : goal.returns
returns g c =
    let t : Bytes c.args.bytes.now = λ i. let b = c.type_inv.bytes i in omega (arith, b) in
    record {
      answer = c.examine.ensures;
      one_form = of_made c.examine.result (λ j e. one_form g.S.Stamp.kind.order g.R.Record.kind g.met.S.Stamp.lawful.ordered g.met.R.Record.written c.args.bytes.now j t (sym c.examine.ensures ∙ e));
    }
