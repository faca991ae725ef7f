use Rattle.std.proofs.Common.{◌≡◌, ℕ, ◌<◌, Some, None, Ok, Option, Result, [], ◌∷◌, ◌++◌, length, take, get_or, sym, ap, ◌∙◌, arith}
use Rattle.std.specs.Prelude.{fold}
use Rattle.std.specs.List.{slice_get}
use Rattle.std.specs.Option.{ok_or}
use Rattle.std.proofs.lemmas.List.{take_more}
use Rattle.std.proofs.lemmas.List.Sums.{fold_push}
use Rattle.std.proofs.lemmas.Option.{get_or_from_slice_get}
use Rattle.archive.specs.declared.fault.Fault.{Fault}
use Rattle.archive.specs.declared.fault.Fault.TheVariants.{SpaceWrong}
use Rattle.reader.specs.Rebuilt.{with_puts, with_job}
use Rattle.reader.proofs.reader.Reader.rebuild.Goals as goal

was_some : {X : Type 0} (o : Option X) (x : X) → ◌≡◌ {A = Result X Fault} (Ok x) (ok_or o SpaceWrong) → o ≡ Some x
was_some (Some w) x q = cc
was_some None x q = let z : ◌≡◌ {A = ℕ} 0 1 = cc in absurd (omega arith)

pub loop-k-preserved : goal.loop-k-preserved
loop-k-preserved g c =
    let opening = c.args.self.now.opening in
    let js = c.args.self.now.journal in
    let k = c.loop-k.k in
    let j = c.in_ok-job.field-0 in
    let within : k < length js = omega (arith, c.loop-k-test.true, c.if-m-jobs.false, c.jobs.ensures) in
    let it : get_or js k j ≡ j = get_or_from_slice_get js k j j (was_some (slice_get js k) j c.in_ok-job.ensures) in
    c.enter.ensures ∙ ap (with_puts c.loop-k.space) c.puts.ensures ∙ ap (λ vs. with_job vs j) c.loop-k.invariant ∙ sym (fold_push with_job opening (take k js) j)
    ∙ ap (λ x. fold with_job opening (take k js ++ x ∷ [])) (sym it) ∙ ap (fold with_job opening) (sym (take_more js k j within))
