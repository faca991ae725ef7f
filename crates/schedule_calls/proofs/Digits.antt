-- Digits without leading zeros: they are text, and of a number that the library can take they are its decimal form.
use Rattle.std.proofs.Common.{◌≡◌, ℕ, ◌<◌, Bool, true, false, cond, not, ◌&&◌, ◌==◌, List, [], ◌∷◌, length, get_or, Some, None, Ok, Err, unwrap_or, decimal, nat_lt, nat_le, refl, sym, ap, ◌∙◌, arith, rules}
use Rattle.std.specs.Char.{is_ascii_digit}
use Rattle.std.specs.List.{list_all}
use Rattle.std.specs.Str.{IsUtf8, all_ascii_digits}
use Rattle.std.proofs.lemmas.Bool.{and_from, eqb-true, leb-true, ltb-true}
use Rattle.std.proofs.lemmas.Fmt.{decimal-digits_value}
use Rattle.std.proofs.lemmas.Str.Parse.{IsNumeralModel, numerals_by_fold}
use Rattle.notation.specs.NumberLaws.{digits_text, each_digit}
use Rattle.notation.specs.Numbers.{value_on, number_of}
use Rattle.schedule_calls.specs.declared.reason.Reason.TheVariants.{Number as NoNumber}
use Rattle.schedule_calls.specs.Numbers.{is_number, without_zeros, numeral_of, with_digits}

own : IsNumeralModel (λ ds. list_all is_ascii_digit ds ≡ true) (value_on 0)
own = numerals_by_fold _ (search rules) value_on (search rules)

both_right : (a b : Bool) → (a && b) ≡ true → b ≡ true
both_right true b h = h
both_right false b h = cc

digits_kept : (w : List ℕ) → list_all is_ascii_digit w ≡ true → list_all is_ascii_digit (without_zeros w) ≡ true
digits_kept [] h = refl
digits_kept (c ∷ cs) h = by ((c == 48) && not (length cs == 0)) (digits_kept cs (both_right (is_ascii_digit c) (list_all is_ascii_digit cs) h))
  where
    by : (b : Bool) → list_all is_ascii_digit (without_zeros cs) ≡ true → list_all is_ascii_digit (cond b (without_zeros cs) (c ∷ cs)) ≡ true
    by true k = k
    by false k = h

digits_left : (w : List ℕ) → is_number w ≡ true → list_all is_ascii_digit (without_zeros w) ≡ true
digits_left w h = digits_kept w (both_right (not (length w == 0)) (list_all is_ascii_digit w) h)

-- the digits that are printed are text
pub numeral_text : (w : List ℕ) → is_number w ≡ true → IsUtf8 (without_zeros w)
numeral_text w h = digits_text (without_zeros w) (digits_left w h)

value_kept : (w : List ℕ) → value_on 0 (without_zeros w) ≡ value_on 0 w
value_kept [] = refl
value_kept (c ∷ cs) = by (c == 48) (not (length cs == 0)) refl (value_kept cs)
  where
    by : (a b : Bool) → (c == 48) ≡ a → value_on 0 (without_zeros cs) ≡ value_on 0 cs → value_on 0 (cond (a && b) (without_zeros cs) (c ∷ cs)) ≡ value_on 0 (c ∷ cs)
    by true true e k = k ∙ ap (λ m. value_on m cs) (omega (arith, eqb-true c 48 e))
    by true false e k = refl
    by false b e k = refl

-- no zero leads but one that stands alone
abbrev Leads : List ℕ → Type 0
Leads ds = (0 < length ds) × (get_or ds 0 0 ≡ 48 → length ds ≡ 1)

leads : (w : List ℕ) → 0 < length w → Leads (without_zeros w)
leads [] some = absurd (omega arith)
leads (c ∷ cs) some = by (c == 48) (length cs == 0) refl refl (leads cs)
  where
    by : (a b : Bool) → (c == 48) ≡ a → (length cs == 0) ≡ b → (0 < length cs → Leads (without_zeros cs)) → Leads (cond (a && not b) (without_zeros cs) (c ∷ cs))
    by true true e k l = (omega arith, λ _. omega (arith, eqb-true (length cs) 0 k))
    by true false e k l = l (grind arith)
    by false b e k l = (omega arith, λ z. absurd (grind arith))

-- what a number that is none too large says
told : (a b c : Bool) (v n : ℕ) → cond (a && (b && c)) (Some v) None ≡ Some n → (a ≡ true) × (b ≡ true) × (c ≡ true) × (v ≡ n)
told true true true v n h = (refl, refl, refl, cc)
told true true false v n h = cc
told true false c v n h = cc
told false b c v n h = cc

-- a number that the library can take has the digits of its decimal form
pub index_digits : (w : List ℕ) (n : ℕ) → number_of 18446744073709551615 w ≡ Some n → numeral_of w ≡ Ok (record { digits = decimal n; value = n })
index_digits w n e =
    let t = told (nat_lt 0 (length w)) (all_ascii_digits w) (nat_le (value_on 0 w) 18446744073709551615) (value_on 0 w) n e in
    let some = ltb-true 0 (length w) t.0 in
    let below = leb-true (value_on 0 w) 18446744073709551615 t.2 in
    let h : is_number w ≡ true = and_from (not (length w == 0)) (list_all is_ascii_digit w) (grind arith) (each_digit w ∙ t.1) in
    let v = value_kept w ∙ t.3 in
    let l = leads w some in
    let d = decimal-digits_value own (without_zeros w) (digits_left w h) l.0 l.1 (omega (arith, v)) in
    ap (λ b. with_digits (without_zeros w) (cond b (Ok (unwrap_or (number_of 18446744073709551615 w) 18446744073709551615)) (Err NoNumber))) h
    ∙ ap (λ o. with_digits (without_zeros w) (Ok (unwrap_or o 18446744073709551615))) e
    ∙ ap (λ ds. with_digits ds (Ok n)) (sym d ∙ ap decimal v)
