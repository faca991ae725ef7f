-- One byte past the limit is enough to tell that there is more.
use Rattle.std.proofs.Common.{◌≡◌, ℕ, ◌<◌, cond, List, [], ◌++◌, length, take, Some, None, Option, sym, ap, ◌∙◌, subst, ⊎_elim, arith}
use Rattle.std.specs.Prelude.{IfSome}
use Rattle.std.specs.Option.{option_map}
use Rattle.std.proofs.lemmas.Bool.{lt-ltb, cases_lt}
use Rattle.std.proofs.lemmas.List.{take_all, length-take-le}
use Rattle.inspection.specs.declared.finding.Finding.{Finding}
use Rattle.inspection.specs.declared.finding.Finding.TheVariants.{TooLong}
use Rattle.inspection.specs.Kinds.{inspected_by_kinds}
use Rattle.inspection.specs.Findings.{finding_of, found, finding_line}

longer : (bs : List ℕ) → 65536 < length bs → found bs ≡ TooLong
longer bs h = ap (λ b. cond b TooLong (finding_of (inspected_by_kinds bs))) (lt-ltb 65536 (length bs) h)

found_taken : (bs : List ℕ) → found (take 65537 bs) ≡ found bs
found_taken bs =
    ⊎_elim
    (λ h. let n = length-take-le 65537 bs (omega arith) in longer (take 65537 bs) (omega arith) ∙ sym (longer bs h))
    (λ h. ap found (take_all 65537 bs (omega arith)))
    (cases_lt 65536 (length bs))

-- what was found in the bytes that were read is what is found in all that the reader has, where that is known
pub known_found : (known inner : Option (List ℕ)) (limit : ℕ) (start read text : List ℕ) (x : Finding)
    → inner ≡ known → limit ≡ 65537 → start ≡ [] → IfSome (option_map (take limit) inner) (λ bs. read ≡ start ++ bs) → x ≡ found read → text ≡ finding_line x
    → IfSome known (λ bs. text ≡ finding_line (found bs))
known_found known None limit start read text x same l s h e t = subst (λ k. IfSome k (λ bs. text ≡ finding_line (found bs))) same tt
known_found known (Some bs) limit start read text x same l s h e t =
    let taken : read ≡ take 65537 bs = h ∙ ap (λ (ys : List ℕ). ys ++ take limit bs) s ∙ ap (λ (n : ℕ). take n bs) l in
    subst (λ k. IfSome k (λ bs. text ≡ finding_line (found bs))) same (t ∙ ap finding_line (e ∙ ap found taken ∙ found_taken bs))
