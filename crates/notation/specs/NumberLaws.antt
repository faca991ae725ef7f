-- Numbers: what a loop over the digits has read, that digits are text, and that a printed number is read back.
use Rattle.std.specs.Prelude.{◌≡◌, ℕ, ◌+◌, ◌-◌, ◌*◌, ◌^◌, ◌<◌, ◌≤◌, true, false, cond, ◌&&◌, List, [], ◌∷◌, length, drop, Some, None, decimal, Option, ◌≢◌, nat_le, slice_index}
use Rattle.std.proofs.Common.{refl, sym, ap, ◌∙◌, arith, rules}
use Rattle.std.specs.Char.{is_ascii_digit}
use Rattle.std.specs.List.{list_all}
use Rattle.std.specs.Str.{all_ascii_digits, IsUtf8}
use Rattle.std.proofs.lemmas.List.{at_drop_more}
use Rattle.std.proofs.lemmas.Bool.{lt-leb, le-leb, lt-ltb, cond-false, and_right}
use Rattle.std.proofs.lemmas.Str.{IsUtf8-from_ascii}
use Rattle.std.proofs.lemmas.Str.Parse.{IsNumeralModel, numerals_by_fold}
use Rattle.std.proofs.lemmas.Fmt.{digits_decimal, digits_value-decimal, decimal_nonempty, IsAscii-from_digits}
use Rattle.notation.specs.Numbers.{value_on, number_of}

-- the answer where n was read and digits are left
abbrev pub read_on : ℕ → ℕ → List ℕ → Option ℕ
read_on most n ds = cond (all_ascii_digits ds && nat_le (value_on n ds) most) (Some (value_on n ds)) None

pub read_digit : (most n c : ℕ) (cs : List ℕ) → is_ascii_digit c ≡ true → read_on most n (c ∷ cs) ≡ read_on most (n * 10 + (c - 48)) cs
read_digit most n c cs e = ap (λ t. cond ((t && all_ascii_digits cs) && nat_le (value_on (n * 10 + (c - 48)) cs) most) (Some (value_on (n * 10 + (c - 48)) cs)) None) e

pub read_other : (most n c : ℕ) (cs : List ℕ) → is_ascii_digit c ≡ false → read_on most n (c ∷ cs) ≡ None
read_other most n c cs e = ap (λ t. cond ((t && all_ascii_digits cs) && nat_le (value_on (n * 10 + (c - 48)) cs) most) (Some (value_on (n * 10 + (c - 48)) cs)) None) e

grows : (n : ℕ) (ds : List ℕ) → n ≤ value_on n ds
grows n [] = omega arith
grows n (c ∷ cs) = let h = grows (n * 10 + (c - 48)) cs in omega arith

pub read_past : (most n : ℕ) (ds : List ℕ) → most < n → read_on most n ds ≡ None
read_past most n ds h =
    let g = grows n ds in
    cond-false (all_ascii_digits ds && nat_le (value_on n ds) most) (Some (value_on n ds)) None
    (and_right (all_ascii_digits ds) (nat_le (value_on n ds) most) (lt-leb (value_on n ds) most (omega arith)))

-- one turn of the loop, at the place i
pub next_digit : (most n i : ℕ) (ds : List ℕ) → i < length ds → is_ascii_digit (slice_index ds i) ≡ true → read_on most n (drop i ds) ≡ read_on most (n * 10 + (slice_index ds i - 48)) (drop (i + 1) ds)
next_digit most n i ds h e = at_drop_more (read_on most n) ds i 0 h ∙ read_digit most n (slice_index ds i) (drop (i + 1) ds) e

pub no_digit : (most n i : ℕ) (ds : List ℕ) → i < length ds → is_ascii_digit (slice_index ds i) ≡ false → read_on most n (drop i ds) ≡ None
no_digit most n i ds h e = at_drop_more (read_on most n) ds i 0 h ∙ read_other most n (slice_index ds i) (drop (i + 1) ds) e

pub too_large : (most n i : ℕ) (ds : List ℕ) → i < length ds → is_ascii_digit (slice_index ds i) ≡ true → most < n * 10 + (slice_index ds i - 48) → read_on most n (drop i ds) ≡ None
too_large most n i ds h e p = next_digit most n i ds h e ∙ read_past most (n * 10 + (slice_index ds i - 48)) (drop (i + 1) ds) p

pub read_none : (most n : ℕ) → n ≤ most → read_on most n [] ≡ Some n
read_none most n h = ap (λ t. cond t (Some n) None) (le-leb n most h)

pub number_from : (most : ℕ) (ds : List ℕ) → (length ds ≢ 0) → number_of most ds ≡ read_on most 0 ds
number_from most ds h =
    ap (λ t. cond (t && (all_ascii_digits ds && nat_le (value_on 0 ds) most)) (Some (value_on 0 ds)) None) (lt-ltb 0 (length ds) (omega arith))

own : IsNumeralModel (λ ds. all_ascii_digits ds ≡ true) (value_on 0)
own = numerals_by_fold _ (search rules) value_on (search rules)

-- the two ways to say that each byte is a digit
pub each_digit : (ds : List ℕ) → list_all is_ascii_digit ds ≡ all_ascii_digits ds
each_digit [] = refl
each_digit (c ∷ cs) = ap (λ t. is_ascii_digit c && t) (each_digit cs)

-- digits alone are text
pub digits_text : (ds : List ℕ) → list_all is_ascii_digit ds ≡ true → IsUtf8 ds
digits_text ds e = IsUtf8-from_ascii ds (IsAscii-from_digits ds (own.to ds (sym (each_digit ds) ∙ e)))

pub decimal_digits : (n : ℕ) → n < 2 ^ 64 → all_ascii_digits (decimal n) ≡ true
decimal_digits n h = digits_decimal own n h

pub number_back : (most n : ℕ) → n ≤ most → n < 2 ^ 64 → number_of most (decimal n) ≡ Some n
number_back most n h k =
    let d = decimal_digits n k in
    let v = digits_value-decimal own n k in
    let s = lt-ltb 0 (length (decimal n)) (decimal_nonempty n k) in
    let l = le-leb n most h in
    cc
