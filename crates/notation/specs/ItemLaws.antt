-- A printed item parses back.
use Rattle.std.specs.Prelude.{◌≡◌, ℕ, ◌%◌, [], ◌∷◌, ◌++◌, drop, Some, codes, decimal, ◌≢◌, slice_index, refl}
use Rattle.std.proofs.Common.{sym, ap, ◌∙◌, arith}
use Rattle.std.specs.Option.{option_map}
use Rattle.std.proofs.lemmas.Bool.{false≢true, ne_eqb}
use Rattle.kinds.specs.Bytes.{be2, number2, number4}
use Rattle.kinds.specs.Item.{counted, item_written}
use Rattle.kinds.specs.declared.item.Item.{Item}
use Rattle.kinds.specs.declared.item.Item.TheVariants.{Withdrawn, Solid, SubAssembly}
use Rattle.kinds.specs.ByteLaws.{again2, again4, wrap2, wrap4, back2}
use Rattle.notation.specs.Text.{ParsesBack, PrintsAlike}
use Rattle.notation.specs.Item.{item_notes, item_text, item_parsed, sub_cut}
use Rattle.notation.specs.NumberLaws.{number_back}
use Rattle.notation.specs.CutLaws.{decimal_cut}

solid_parsed_back : (n : ℕ) → item_parsed (item_text (Solid n)) ≡ Some (Solid (n % 4294967296))
solid_parsed_back n = ap (option_map Solid) (number_back 4294967295 (n % 4294967296) (omega arith) (omega arith))

sub_parsed_back : (m k : ℕ) → item_parsed (item_text (SubAssembly m k)) ≡ Some (SubAssembly (m % 65536) (counted k))
sub_parsed_back m k =
    let p = number_back 65535 (m % 65536) (omega arith) (omega arith) in
    let q = number_back 65535 (counted k) (omega arith) (omega arith) in
    let z = ne_eqb (counted k) 0 (omega arith) in
    ap sub_cut (decimal_cut 58 (m % 65536) (decimal (counted k)) false≢true (omega arith)) ∙ cc

again_count : (k : ℕ) → counted (counted k) ≡ counted k
again_count k = omega arith

pub item_back : ParsesBack item_notes
item_back Withdrawn = refl
item_back (Solid n) =
    ap (option_map item_written) (solid_parsed_back n)
    ∙ ap (λ xs. Some (1 ∷ 0 ∷ 0 ∷ 0 ∷ (xs ++ 0 ∷ 0 ∷ 0 ∷ 0 ∷ []))) (again4 n)
item_back (SubAssembly m k) =
    ap (option_map item_written) (sub_parsed_back m k)
    ∙ ap (λ xs. Some (2 ∷ 0 ∷ 0 ∷ 0 ∷ ((xs ++ be2 (counted (counted k))) ++ 0 ∷ 0 ∷ 0 ∷ 0 ∷ []))) (again2 m)
    ∙ ap (λ n. Some (2 ∷ 0 ∷ 0 ∷ 0 ∷ ((be2 m ++ be2 n) ++ 0 ∷ 0 ∷ 0 ∷ 0 ∷ []))) (again_count k)

-- cases with different tags have different forms
other_tag : (v w : Item) → (slice_index (item_written v) 0 ≢ slice_index (item_written w) 0) → item_written v ≡ item_written w → item_text v ≡ item_text w
other_tag v w h e = absurd (h (ap (λ bs. slice_index bs 0) e))

pub item_alike : PrintsAlike item_notes
item_alike Withdrawn Withdrawn e = refl
item_alike Withdrawn (Solid n) e = other_tag Withdrawn (Solid n) (λ t. omega arith) e
item_alike Withdrawn (SubAssembly m k) e = other_tag Withdrawn (SubAssembly m k) (λ t. omega arith) e
item_alike (Solid n) Withdrawn e = other_tag (Solid n) Withdrawn (λ t. omega arith) e
item_alike (Solid n) (Solid p) e = ap (λ d. codes "solid:" ++ decimal d) (sym (wrap4 n) ∙ ap (λ bs. number4 (drop 4 bs)) e ∙ wrap4 p)
item_alike (Solid n) (SubAssembly m k) e = other_tag (Solid n) (SubAssembly m k) (λ t. omega arith) e
item_alike (SubAssembly m k) Withdrawn e = other_tag (SubAssembly m k) Withdrawn (λ t. omega arith) e
item_alike (SubAssembly m k) (Solid n) e = other_tag (SubAssembly m k) (Solid n) (λ t. omega arith) e
item_alike (SubAssembly m k) (SubAssembly p q) e =
    ap (λ d. codes "sub:" ++ (decimal d ++ 58 ∷ decimal (counted k))) (sym (wrap2 m) ∙ ap (λ bs. number2 (drop 4 bs)) e ∙ wrap2 p)
    ∙ ap (λ d. codes "sub:" ++ (decimal (p % 65536) ++ 58 ∷ decimal d)) (sym (back2 (counted k) (omega arith)) ∙ ap (λ bs. number2 (drop 6 bs)) e ∙ back2 (counted q) (omega arith))
