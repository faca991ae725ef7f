-- Hexadecimal digits: what the loops have written and read, and that what is written is read back.
use Rattle.std.proofs.Common.{◌≡◌, ℕ, zero, suc, ◌+◌, ◌-◌, ◌*◌, ◌/◌, ◌%◌, ◌^◌, ◌<◌, ◌≤◌, false, List, [], ◌∷◌, ◌++◌, length, get_or, take, drop, set, Some, None, Option, sym, refl, ap, ◌∙◌, append_assoc, append-nil, arith}
use Rattle.std.specs.Option.{option_map}
use Rattle.std.specs.Fmt.{padded_integral, format_spec, digits}
use Rattle.std.proofs.lemmas.Bool.Decides.{nat_tests}
use Rattle.std.proofs.lemmas.List.{take_more, take_more_set, take_all, take_rest}
use Rattle.std.proofs.lemmas.Fmt.{hex_byte}
use Rattle.kinds.specs.Bytes.{Bytes}
use Rattle.notation.specs.Hex.{hex, hex_digit, digit_value, byte_then, unhexed, ReadsBack}

hex_append : (xs ys : List ℕ) → hex (xs ++ ys) ≡ hex xs ++ hex ys
hex_append [] ys = refl
hex_append (x ∷ xs) ys = ap (λ l. hex_digit (x / 16) ∷ hex_digit (x % 16) ∷ l) (hex_append xs ys)

-- one more byte is written
pub hex_more : (bs : List ℕ) (i : ℕ) → i < length bs → hex (take (i + 1) bs) ≡ hex (take i bs) ++ hex_digit (get_or bs i 0 / 16) ∷ hex_digit (get_or bs i 0 % 16) ∷ []
hex_more bs i h = ap hex (take_more bs i 0 h) ∙ hex_append (take i bs) (get_or bs i 0 ∷ [])

-- the same, by the text of `{:02x}`
pub hex_printed : (bs : List ℕ) (i : ℕ) → i < length bs → get_or bs i 0 < 256 → hex (take i bs) ++ padded_integral (format_spec 32 0 4 2 (2 ^ 64 - 1)) false [] (digits 16 false (get_or bs i 0)) ≡ hex (take (i + 1) bs)
hex_printed bs i h b = ap (λ ds. hex (take i bs) ++ ds) (hex_byte false (get_or bs i 0) b) ∙ sym (hex_more bs i h)

-- the bytes so far, before those that are left
abbrev pub so_far : List ℕ → Option (List ℕ) → Option (List ℕ)
so_far xs rest = option_map (λ bs. xs ++ bs) rest

so_far_one : (xs : List ℕ) (x : ℕ) (o : Option (List ℕ)) → so_far xs (option_map (λ bs. x ∷ bs) o) ≡ so_far (xs ++ x ∷ []) o
so_far_one xs x None = refl
so_far_one xs x (Some bs) = ap Some (sym (append_assoc xs (x ∷ []) bs))

-- two digits, and what follows them
two : (n i : ℕ) (w : List ℕ) → i < n → 2 ≤ length w → unhexed (n - i) w ≡ byte_then (digit_value (get_or w 0 0)) (digit_value (get_or w 1 0)) (unhexed (n - (i + 1)) (take (length w - 2) (drop 2 w)))
two n i [] h e = absurd (omega arith)
two n i (c ∷ []) h e = absurd (omega arith)
two n i (c ∷ d ∷ ds) h e =
    let count : n - i ≡ suc (n - (i + 1)) = omega arith in
    ap (λ k. unhexed k (c ∷ d ∷ ds)) count
    ∙ ap (λ xs. byte_then (digit_value c) (digit_value d) (unhexed (n - (i + 1)) xs)) (sym (take_rest (c ∷ d ∷ ds) 2))

-- fewer than two digits, a digit that is none, one byte more, and the loop's end
pub read_short : (n i : ℕ) (w xs : List ℕ) → i < n → length w < 2 → so_far xs (unhexed (n - i) w) ≡ None
read_short n i w xs h e = let count : n - i ≡ suc (n - (i + 1)) = omega arith in ap (λ k. so_far xs (unhexed k w)) count ∙ short w e
  where
    short : (v : List ℕ) → length v < 2 → so_far xs (unhexed (suc (n - (i + 1))) v) ≡ None
    short [] e = refl
    short (c ∷ []) e = refl
    short (c ∷ d ∷ ds) e = absurd (omega arith)

pub read_high : (n i : ℕ) (w xs : List ℕ) → i < n → 2 ≤ length w → digit_value (get_or w 0 0) ≡ None → so_far xs (unhexed (n - i) w) ≡ None
read_high n i w xs h e d =
    ap (so_far xs) (two n i w h e ∙ ap (λ o. byte_then o (digit_value (get_or w 1 0)) (unhexed (n - (i + 1)) (take (length w - 2) (drop 2 w)))) d)

pub read_low : (n i high : ℕ) (w xs : List ℕ) → i < n → 2 ≤ length w → digit_value (get_or w 0 0) ≡ Some high → digit_value (get_or w 1 0) ≡ None → so_far xs (unhexed (n - i) w) ≡ None
read_low n i high w xs h e d f =
    let rest : Option (List ℕ) = unhexed (n - (i + 1)) (take (length w - 2) (drop 2 w)) in
    ap (so_far xs) (two n i w h e ∙ ap (λ o. byte_then o (digit_value (get_or w 1 0)) rest) d ∙ ap (λ o. byte_then (Some high) o rest) f)

pub read_byte : (n i high low : ℕ) (w xs : List ℕ) → i < n → 2 ≤ length w → length xs ≡ n → digit_value (get_or w 0 0) ≡ Some high → digit_value (get_or w 1 0) ≡ Some low → so_far (take i xs) (unhexed (n - i) w) ≡ so_far (take (i + 1) (set xs i (high * 16 + low))) (unhexed (n - (i + 1)) (take (length w - 2) (drop 2 w)))
read_byte n i high low w xs h e l d f =
    let rest : Option (List ℕ) = unhexed (n - (i + 1)) (take (length w - 2) (drop 2 w)) in
    ap (so_far (take i xs)) (two n i w h e ∙ ap (λ o. byte_then o (digit_value (get_or w 1 0)) rest) d ∙ ap (λ o. byte_then (Some high) o rest) f)
    ∙ so_far_one (take i xs) (high * 16 + low) rest
    ∙ ap (λ ys. so_far ys rest) (sym (take_more_set xs i (high * 16 + low) (omega arith)))

pub read_all : (n i : ℕ) (w xs : List ℕ) → n ≡ i → length w ≡ 0 → length xs ≡ n → so_far (take i xs) (unhexed (n - i) w) ≡ Some xs
read_all n i (c ∷ cs) xs h e l = absurd (omega arith)
read_all n i [] xs h e l =
    let none : n - i ≡ 0 = omega arith in
    ap (λ k. so_far (take i xs) (unhexed k [])) none ∙ ap Some (append-nil (take i xs) ∙ take_all i xs (omega arith))

-- what is written is read back
digit_back : (h : ℕ) → h < 16 → digit_value (hex_digit h) ≡ Some h
digit_back h l = grind (arith, nat_tests)

hex_back : (bs : List ℕ) → Bytes bs → unhexed (length bs) (hex bs) ≡ Some bs
hex_back [] h = refl
hex_back (b ∷ bs) h =
    let k = h 0 in
    let p = digit_back (b / 16) (omega arith) in
    let q = digit_back (b % 16) (omega arith) in
    let r = hex_back bs (λ k. h (suc k)) in
    let e : b / 16 * 16 + b % 16 ≡ b = omega arith in
    ap (λ o. byte_then o (digit_value (hex_digit (b % 16))) (unhexed (length bs) (hex bs))) p
    ∙ ap (λ o. byte_then (Some (b / 16)) o (unhexed (length bs) (hex bs))) q
    ∙ ap (option_map (λ xs. (b / 16 * 16 + b % 16) ∷ xs)) r ∙ ap (λ x. Some (x ∷ bs)) e

-- what is read was written so
digit_forth : (c h : ℕ) → digit_value c ≡ Some h → (hex_digit h ≡ c) × (h < 16)
digit_forth c h e = (grind (arith, nat_tests), grind (arith, nat_tests))

hex_forth_byte : (a b : Option ℕ) (c d : ℕ) (ds bs : List ℕ) (o : Option (List ℕ)) → digit_value c ≡ a → digit_value d ≡ b → ((xs : List ℕ) → o ≡ Some xs → hex xs ≡ ds) → byte_then a b o ≡ Some bs → hex bs ≡ c ∷ d ∷ ds
hex_forth_byte (Some h) (Some l) c d ds bs (Some xs) e f r q =
    let p = digit_forth c h e in
    let s = digit_forth d l f in
    let is : (h * 16 + l) ∷ xs ≡ bs = cc in
    let high : (h * 16 + l) / 16 ≡ h = omega (arith, p.1, s.1) in
    let low : (h * 16 + l) % 16 ≡ l = omega (arith, p.1, s.1) in
    let rest = r xs refl in
    ap hex (sym is) ∙ ap (λ x. hex_digit x ∷ hex_digit ((h * 16 + l) % 16) ∷ hex xs) high ∙ ap (λ x. hex_digit h ∷ hex_digit x ∷ hex xs) low
    ∙ ap (λ x. x ∷ hex_digit l ∷ hex xs) p.0 ∙ ap (λ x. c ∷ x ∷ hex xs) s.0 ∙ ap (λ x. c ∷ d ∷ x) rest
hex_forth_byte (Some h) (Some l) c d ds bs None e f r q = absurd (cc)
hex_forth_byte (Some h) None c d ds bs o e f r q = absurd (cc)
hex_forth_byte None b c d ds bs o e f r q = absurd (cc)

hex_forth : (n : ℕ) (ds bs : List ℕ) → unhexed n ds ≡ Some bs → hex bs ≡ ds
hex_forth zero [] bs e = let is : [] ≡ bs = cc in ap hex (sym is)
hex_forth zero (c ∷ cs) bs e = absurd (cc)
hex_forth (suc n) [] bs e = absurd (cc)
hex_forth (suc n) (c ∷ []) bs e = absurd (cc)
hex_forth (suc n) (c ∷ d ∷ ds) bs e = hex_forth_byte (digit_value c) (digit_value d) c d ds bs (unhexed n ds) refl refl (hex_forth n ds) e

pub reads_back : ReadsBack
reads_back = record { back = hex_back; forth = hex_forth }
