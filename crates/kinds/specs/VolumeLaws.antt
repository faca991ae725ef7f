-- Stamps of volume and page show the laws.
use Rattle.std.specs.Prelude.{◌≡◌, ℕ, ◌^◌, ◌<◌, List, [], ◌∷◌, ◌++◌, length, drop, Some, None, Option, refl}
use Rattle.std.proofs.Common.{sym, ap, ◌∙◌, inl, inr, ⊎_elim, arith}
use Rattle.std.specs.Option.{option_map}
use Rattle.std.proofs.lemmas.Bool.Decides.{nat_tests}
use Rattle.kinds.specs.Bytes.{Bytes, be4, number4}
use Rattle.kinds.specs.Stamps.{Lawful, OneOf, Before, Same, SameBound, Between}
use Rattle.kinds.specs.Volume.{volume_page, volume_of, page_of, volume_at, next_of, if_before, volume_pick, volume_written, volume_read, volume_order, volume_kind}
use Rattle.kinds.specs.declared.volume.VolumePage.{VolumePage}
use Rattle.kinds.specs.ByteLaws.{Eight, of_eight, bytes_be4, bytes_append, back4, forth4}

volume_fits : (a : VolumePage) → volume_of a < 2 ^ 32
volume_fits a = omega arith

page_fits : (a : VolumePage) → page_of a < 2 ^ 32
page_fits a = omega arith

-- stamps with one form count as one volume and one page
volume_told : (a b : VolumePage) → Same volume_order a b → volume_of a ≡ volume_of b
volume_told a b e = sym (back4 (volume_of a) (volume_fits a)) ∙ ap number4 e ∙ back4 (volume_of b) (volume_fits b)

page_told : (a b : VolumePage) → Same volume_order a b → page_of a ≡ page_of b
page_told a b e = sym (back4 (page_of a) (page_fits a)) ∙ ap (λ bs. number4 (drop 4 bs)) e ∙ back4 (page_of b) (page_fits b)

written_alike : (a b : VolumePage) → (volume_of a ≡ volume_of b) × (page_of a ≡ page_of b) → Same volume_order a b
written_alike a b h = ap (λ v. be4 v ++ be4 (page_of a)) h.0 ∙ ap (λ p. be4 (volume_of b) ++ be4 p) h.1

by_numbers : (a b : VolumePage) → OneOf (Before volume_order a b) ((volume_of a ≡ volume_of b) × (page_of a ≡ page_of b)) (Before volume_order b a)
by_numbers a b = grind (arith, nat_tests)

trichotomy : (a b : VolumePage) → OneOf (Before volume_order a b) (Same volume_order a b) (Before volume_order b a)
trichotomy a b =
    ⊎_elim (λ h. inl (h.0, (λ e. h.1 (volume_told a b e, page_told a b e)), h.2))
    (⊎_elim (λ h. inr (inl (h.0, written_alike a b h.1, h.2))) (λ h. inr (inr (h.0, (λ e. h.1 (volume_told a b e, page_told a b e)), h.2))))
    (by_numbers a b)

transitive : (a b c : VolumePage) → Before volume_order a b → Before volume_order b c → Before volume_order a c
transitive a b c h k = grind (arith, nat_tests)

least_first : (a : VolumePage) → Before volume_order a (volume_page 0 0) → ⊥
least_first a h = grind (arith, nat_tests)

again : (v p : ℕ) → v < 10000 → p < 10000 → volume_at v p ≡ Some (volume_page v p)
again v p h k = grind (arith, nat_tests)

record Read (v p : ℕ) (s : VolumePage) : Type 0 where
  volume_is : volume_of s ≡ v
  page_is : page_of s ≡ p

read_numbers : (v p : ℕ) (s : VolumePage) → volume_at v p ≡ Some s → Read v p s
read_numbers v p s h = record { volume_is = grind (arith, nat_tests); page_is = grind (arith, nat_tests) }

back : (a : VolumePage) → option_map volume_written (volume_read (volume_written a)) ≡ Some (volume_written a)
back a =
    let v = back4 (volume_of a) (volume_fits a) in
    let p = back4 (page_of a) (page_fits a) in
    let e : volume_read (volume_written a) ≡ volume_at (volume_of a) (page_of a) = cc in
    let r = again (volume_of a) (page_of a) (omega arith) (omega arith) in
    ap (option_map volume_written) (e ∙ r) ∙ ap Some (written_alike (volume_page (volume_of a) (page_of a)) a (omega arith, omega arith))

forth8 : (s : VolumePage) → Eight (λ bs. Bytes bs → volume_read bs ≡ Some s → volume_written s ≡ bs)
forth8 s a b c d e f g h t q =
    let r = read_numbers (number4 (a ∷ b ∷ c ∷ d ∷ [])) (number4 (e ∷ f ∷ g ∷ h ∷ [])) s q in
    ap (λ v. be4 v ++ be4 (page_of s)) r.volume_is ∙ ap (λ p. be4 (number4 (a ∷ b ∷ c ∷ d ∷ [])) ++ be4 p) r.page_is
    ∙ ap (λ xs. xs ++ be4 (number4 (e ∷ f ∷ g ∷ h ∷ []))) (forth4 a b c d (t 0) (t 1) (t 2) (t 3))
    ∙ ap (λ xs. a ∷ b ∷ c ∷ d ∷ xs) (forth4 e f g h (t 4) (t 5) (t 6) (t 7))

forth : (bs : List ℕ) (s : VolumePage) → length bs ≡ 8 → Bytes bs → volume_read bs ≡ Some s → volume_written s ≡ bs
forth bs s n = of_eight (λ xs. Bytes xs → volume_read xs ≡ Some s → volume_written s ≡ xs) (forth8 s) bs n

inside : (lower : VolumePage) (upper : Option VolumePage) (s : VolumePage) → volume_pick lower upper ≡ Some s → Between volume_order lower upper s
inside lower None s h = grind (arith, nat_tests)
inside lower (Some u) s h = grind (arith, nat_tests)

none : (lower : VolumePage) (upper : Option VolumePage) → volume_pick lower upper ≡ None → (s : VolumePage) → Between volume_order lower upper s → ⊥
none lower None h s k = grind (arith, nat_tests)
none lower (Some u) h s k = grind (arith, nat_tests)

some_form : (a b : VolumePage) → SameBound volume_order (Some a) (Some b) → Same volume_order a b
some_form a b e = cc

-- the same bounds count as the same numbers, and the rule sees nothing else of them
bound_alike : (u v : VolumePage) (o : Option VolumePage) → Same volume_order u v → if_before u o ≡ if_before v o
bound_alike u v None e = refl
bound_alike u v (Some s) e = let q = volume_told u v e in let r = page_told u v e in cc

alike : (a b : VolumePage) (u v : Option VolumePage) → Same volume_order a b → SameBound volume_order u v → SameBound volume_order (volume_pick a u) (volume_pick b v)
alike a b None None e f = let q = volume_told a b e in let r = page_told a b e in cc
alike a b None (Some v) e f = cc
alike a b (Some u) None e f = cc
alike a b (Some u) (Some v) e f =
    let q = volume_told a b e in let r = page_told a b e in
    let s = bound_alike u v (next_of (volume_of b) (page_of b)) (some_form u v f) in
    cc

pub volume_laws : Lawful volume_kind
volume_laws = record {
  ordered = record {
    trichotomy = trichotomy;
    transitive = transitive;
    least_first = least_first;
    formed = record {
      wide = λ a. refl;
      bytes = λ a. bytes_append (be4 (volume_of a)) (be4 (page_of a)) (bytes_be4 (volume_of a)) (bytes_be4 (page_of a));
      back = back;
      forth = forth;
    };
  };
  picks = record { inside = inside; none = none; alike = alike };
}
