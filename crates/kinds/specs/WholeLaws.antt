-- Whole stamps show the laws.
use Rattle.std.specs.Prelude.{◌≡◌, ℕ, ◌^◌, ◌<◌, List, length, Some, None, Option, refl}
use Rattle.std.proofs.Common.{sym, ap, ◌∙◌, inl, inr, ⊎_elim, arith}
use Rattle.std.specs.Option.{option_map}
use Rattle.std.proofs.lemmas.Bool.Decides.{nat_tests}
use Rattle.kinds.specs.Bytes.{Bytes, be8, number8}
use Rattle.kinds.specs.Stamps.{Lawful, OneOf, Before, Same, SameBound, Between}
use Rattle.kinds.specs.Whole.{whole, counted, whole_of, whole_pick, whole_written, whole_read, whole_order, whole_kind}
use Rattle.kinds.specs.declared.whole.Whole.{Whole}
use Rattle.kinds.specs.ByteLaws.{bytes_be8, back8, forth8}

fits : (a : Whole) → counted a < 2 ^ 64
fits a = omega arith

-- stamps with one form count as one number
number_of : (a b : Whole) → Same whole_order a b → counted a ≡ counted b
number_of a b e = sym (back8 (counted a) (fits a)) ∙ ap number8 e ∙ back8 (counted b) (fits b)

by_number : (a b : Whole) → OneOf (Before whole_order a b) (counted a ≡ counted b) (Before whole_order b a)
by_number a b = grind (arith, nat_tests)

trichotomy : (a b : Whole) → OneOf (Before whole_order a b) (Same whole_order a b) (Before whole_order b a)
trichotomy a b =
    ⊎_elim (λ h. inl (h.0, (λ e. h.1 (number_of a b e)), h.2))
    (⊎_elim (λ h. inr (inl (h.0, ap be8 h.1, h.2))) (λ h. inr (inr (h.0, (λ e. h.1 (number_of a b e)), h.2))))
    (by_number a b)

transitive : (a b c : Whole) → Before whole_order a b → Before whole_order b c → Before whole_order a c
transitive a b c h k = grind (arith, nat_tests)

least_first : (a : Whole) → Before whole_order a (whole 0) → ⊥
least_first a h = grind (arith, nat_tests)

again : (n : ℕ) → n < 4611686018427387904 → option_map counted (whole_of n) ≡ Some n
again n h = grind (arith, nat_tests)

read_number : (n : ℕ) (w : Whole) → whole_of n ≡ Some w → counted w ≡ n
read_number n w h = grind (arith, nat_tests)

back : (a : Whole) → option_map whole_written (whole_read (whole_written a)) ≡ Some (whole_written a)
back a = ap (λ n. option_map whole_written (whole_of n)) (back8 (counted a) (fits a)) ∙ by (whole_of (counted a)) (again (counted a) (omega arith))
  where
    by : (o : Option Whole) → option_map counted o ≡ Some (counted a) → option_map whole_written o ≡ Some (whole_written a)
    by None e = cc
    by (Some w) e = let q : counted w ≡ counted a = cc in ap (λ n. Some (be8 n)) q

forth : (bs : List ℕ) (a : Whole) → length bs ≡ 8 → Bytes bs → whole_read bs ≡ Some a → whole_written a ≡ bs
forth bs a n b h = ap be8 (read_number (number8 bs) a h) ∙ forth8 bs n b

inside : (lower : Whole) (upper : Option Whole) (s : Whole) → whole_pick lower upper ≡ Some s → Between whole_order lower upper s
inside lower None s h = grind (arith, nat_tests)
inside lower (Some u) s h = grind (arith, nat_tests)

none : (lower : Whole) (upper : Option Whole) → whole_pick lower upper ≡ None → (s : Whole) → Between whole_order lower upper s → ⊥
none lower None h s k = grind (arith, nat_tests)
none lower (Some u) h s k = grind (arith, nat_tests)

some_form : (a b : Whole) → SameBound whole_order (Some a) (Some b) → Same whole_order a b
some_form a b e = cc

-- the same bounds count as the same numbers, and the rule sees nothing else of them
alike : (a b : Whole) (u v : Option Whole) → Same whole_order a b → SameBound whole_order u v → SameBound whole_order (whole_pick a u) (whole_pick b v)
alike a b None None e f = let q = number_of a b e in cc
alike a b None (Some v) e f = cc
alike a b (Some u) None e f = cc
alike a b (Some u) (Some v) e f = let q = number_of a b e in let r = number_of u v (some_form u v f) in cc

pub whole_laws : Lawful whole_kind
whole_laws = record {
  ordered = record {
    trichotomy = trichotomy;
    transitive = transitive;
    least_first = least_first;
    formed = record { wide = λ a. refl; bytes = λ a. bytes_be8 (counted a); back = back; forth = forth };
  };
  picks = record { inside = inside; none = none; alike = alike };
}
