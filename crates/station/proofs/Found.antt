-- What the first entry for a record, with its place, tells of the entries.
use Rattle.std.proofs.Common.{◌≡◌, ℕ, ◌<◌, Bool, true, false, cond, eqb, List, [], ◌∷◌, length, set, Some, None, Option, refl, ap, suc-le-suc, arith}
use Rattle.std.specs.Option.{option_map}
use Rattle.model.specs.declared.entry.Entry.{Entry}
use Rattle.model.specs.Sheets.{find, put_on, with_value}
use Rattle.station.specs.Heard.{one_on, found_at}

module _ {S R : Type 0} where
  abbrev pub Told : List (Entry S R) → Option (Entry S R) → (R → List (Entry S R)) → Option (ℕ × Entry S R) → Type 0
  Told es found written None = found ≡ None
  Told es found written (Some p) = (p.0 < length es) × (found ≡ Some p.1) × ((v : R) → written v ≡ set es p.0 (with_value v p.1))

  pub told : (x : ℕ) (es : List (Entry S R)) → Told es (find x es) (λ v. put_on x v es) (found_at x es)
  told x [] = refl
  told x (e ∷ es) = more (eqb x e.number) (found_at x es) (told x es)
    where
      more : (b : Bool) (o : Option (ℕ × Entry S R)) → Told es (find x es) (λ v. put_on x v es) o → Told (e ∷ es) (cond b (Some e) (find x es)) (λ v. cond b (with_value v e ∷ es) (e ∷ put_on x v es)) (cond b (Some (0, e)) (option_map one_on o))
      more true o h = (omega arith, refl, λ v. refl)
      more false None h = h
      more false (Some p) h = (suc-le-suc h.0, h.1, λ v. ap (λ (r : List (Entry S R)). e ∷ r) (h.2 v))
