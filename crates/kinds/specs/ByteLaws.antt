-- Numbers in bytes: what is written is read back, and what is read was written so.
use Rattle.std.specs.Prelude.{◌≡◌, ℕ, zero, suc, ◌+◌, ◌*◌, ◌/◌, ◌%◌, ◌^◌, ◌<◌, List, [], ◌∷◌, ◌++◌, length, drop, slice_index, slice_index_or}
use Rattle.std.proofs.Common.{sym, ap, subst, ◌∙◌, arith, drop-cons}
use Rattle.std.proofs.lemmas.List.{drop_all}
use Rattle.kinds.specs.Bytes.{be2, be4, be8, number2, number4, number8, Bytes}

-- the elements of a list of known length, written out
abbrev pub listed : List ℕ → ℕ → ℕ → List ℕ
listed xs i zero = []
listed xs i (suc n) = slice_index xs i ∷ listed xs (suc i) n

pub is_listed : (n i : ℕ) (xs : List ℕ) → length xs ≡ i + n → drop i xs ≡ listed xs i n
is_listed zero i xs h = drop_all i xs (omega arith)
is_listed (suc n) i xs h = drop-cons xs i 0 (omega arith) ∙ ap (λ ys. slice_index xs i ∷ ys) (is_listed n (suc i) xs (omega arith))

-- what holds of every eight or twelve elements holds of every list of that length
abbrev pub Eight : (List ℕ → Type 0) → Type 0
Eight P = (a b c d e f g h : ℕ) → P (a ∷ b ∷ c ∷ d ∷ e ∷ f ∷ g ∷ h ∷ [])

pub of_eight : (P : List ℕ → Type 0) → Eight P → (bs : List ℕ) → length bs ≡ 8 → P bs
of_eight P t bs n =
    subst P (sym (is_listed 8 0 bs n))
    (t (slice_index bs 0) (slice_index bs 1) (slice_index bs 2) (slice_index bs 3) (slice_index bs 4) (slice_index bs 5) (slice_index bs 6) (slice_index bs 7))

abbrev pub Twelve : (List ℕ → Type 0) → Type 0
Twelve P = (a b c d e f g h i j k l : ℕ) → P (a ∷ b ∷ c ∷ d ∷ e ∷ f ∷ g ∷ h ∷ i ∷ j ∷ k ∷ l ∷ [])

pub of_twelve : (P : List ℕ → Type 0) → Twelve P → (bs : List ℕ) → length bs ≡ 12 → P bs
of_twelve P t bs n =
    subst P (sym (is_listed 12 0 bs n))
    (t (slice_index bs 0) (slice_index bs 1) (slice_index bs 2) (slice_index bs 3) (slice_index bs 4) (slice_index bs 5) (slice_index bs 6) (slice_index bs 7) (slice_index bs 8) (slice_index bs 9) (slice_index bs 10) (slice_index bs 11))

-- a list of bytes, one by one
pub bytes_nil : Bytes []
bytes_nil k = omega arith

pub bytes_cons : (b : ℕ) (bs : List ℕ) → b < 256 → Bytes bs → Bytes (b ∷ bs)
bytes_cons b bs h t zero = h
bytes_cons b bs h t (suc k) = t k

pub bytes_append : (xs ys : List ℕ) → Bytes xs → Bytes ys → Bytes (xs ++ ys)
bytes_append [] ys h t = t
bytes_append (x ∷ xs) ys h t = bytes_cons x (xs ++ ys) (h 0) (bytes_append xs ys (λ k. h (suc k)) t)

pub bytes_zero3 : (bs : List ℕ) → Bytes bs → Bytes (0 ∷ 0 ∷ 0 ∷ bs)
bytes_zero3 bs h = bytes_cons 0 (0 ∷ 0 ∷ bs) (omega arith) (bytes_cons 0 (0 ∷ bs) (omega arith) (bytes_cons 0 bs (omega arith) h))

low : (n : ℕ) → n % 256 < 256
low n = omega arith

pub bytes_be2 : (n : ℕ) → Bytes (be2 n)
bytes_be2 n = bytes_cons (n / 256 % 256) (n % 256 ∷ []) (low (n / 256)) (bytes_cons (n % 256) [] (low n) bytes_nil)

pub bytes_be4 : (n : ℕ) → Bytes (be4 n)
bytes_be4 n =
    bytes_cons (n / 16777216 % 256) ((n / 65536 % 256) ∷ be2 n) (low (n / 16777216))
    (bytes_cons (n / 65536 % 256) (be2 n) (low (n / 65536)) (bytes_be2 n))

pub bytes_be8 : (n : ℕ) → Bytes (be8 n)
bytes_be8 n =
    bytes_append ((n / 72057594037927936 % 256) ∷ (n / 281474976710656 % 256) ∷ (n / 1099511627776 % 256) ∷ (n / 4294967296 % 256) ∷ []) (be4 n)
    (bytes_cons (n / 72057594037927936 % 256) ((n / 281474976710656 % 256) ∷ (n / 1099511627776 % 256) ∷ (n / 4294967296 % 256) ∷ []) (low (n / 72057594037927936))
    (bytes_cons (n / 281474976710656 % 256) ((n / 1099511627776 % 256) ∷ (n / 4294967296 % 256) ∷ []) (low (n / 281474976710656))
    (bytes_cons (n / 1099511627776 % 256) ((n / 4294967296 % 256) ∷ []) (low (n / 1099511627776))
    (bytes_cons (n / 4294967296 % 256) [] (low (n / 4294967296)) bytes_nil))))
    (bytes_be4 n)

-- a number is what its low bits are
pub wrap2 : (n : ℕ) → number2 (be2 n) ≡ n % 65536
wrap2 n = omega arith

pub back2 : (n : ℕ) → n < 2 ^ 16 → number2 (be2 n) ≡ n
back2 n h = omega arith

joined : (a a' b c d h l n : ℕ) → a * 256 + b ≡ h → c * 256 + d ≡ l → a ≡ a' → n ≡ h * 65536 + l → a' * 16777216 + b * 65536 + c * 256 + d ≡ n
joined a a' b c d h l n p q e t = omega arith

quarter : (n : ℕ) → n / 65536 / 256 % 256 ≡ n / 16777216 % 256
quarter n = omega arith

halves : (n : ℕ) → n % 4294967296 ≡ n / 65536 % 65536 * 65536 + n % 65536
halves n = omega arith

pub wrap4 : (n : ℕ) → number4 (be4 n) ≡ n % 4294967296
wrap4 n =
    let p : n / 65536 / 256 % 256 * 256 + n / 65536 % 256 ≡ n / 65536 % 65536 = wrap2 (n / 65536) in
    let q : n / 256 % 256 * 256 + n % 256 ≡ n % 65536 = wrap2 n in
    joined (n / 65536 / 256 % 256) (n / 16777216 % 256) (n / 65536 % 256) (n / 256 % 256) (n % 256) (n / 65536 % 65536) (n % 65536) (n % 4294967296) p q (quarter n) (halves n)

pub back4 : (n : ℕ) → n < 2 ^ 32 → number4 (be4 n) ≡ n
back4 n h = let w = wrap4 n in omega arith

pub back8 : (n : ℕ) → n < 2 ^ 64 → number8 (be8 n) ≡ n
back8 n h = omega arith

-- the low bits are written as the whole number is
pub again2 : (n : ℕ) → be2 (n % 65536) ≡ be2 n
again2 n =
    let a : n % 65536 / 256 % 256 ≡ n / 256 % 256 = omega arith in
    let b : n % 65536 % 256 ≡ n % 256 = omega arith in
    cc

pub again4 : (n : ℕ) → be4 (n % 4294967296) ≡ be4 n
again4 n =
    let a : n % 4294967296 / 16777216 % 256 ≡ n / 16777216 % 256 = omega arith in
    let b : n % 4294967296 / 65536 % 256 ≡ n / 65536 % 256 = omega arith in
    let c : n % 4294967296 / 256 % 256 ≡ n / 256 % 256 = omega arith in
    let d : n % 4294967296 % 256 ≡ n % 256 = omega arith in
    cc

-- bytes are what their number is written as
pub forth2 : (a b : ℕ) → a < 256 → b < 256 → be2 (a * 256 + b) ≡ a ∷ b ∷ []
forth2 a b ha hb =
    let e0 : (a * 256 + b) / 256 % 256 ≡ a = omega arith in
    let e1 : (a * 256 + b) % 256 ≡ b = omega arith in
    cc

pub forth4 : (a b c d : ℕ) → a < 256 → b < 256 → c < 256 → d < 256 → be4 (a * 16777216 + b * 65536 + c * 256 + d) ≡ a ∷ b ∷ c ∷ d ∷ []
forth4 a b c d ha hb hc hd =
    let n : ℕ = a * 16777216 + b * 65536 + c * 256 + d in
    let e0 : n / 16777216 % 256 ≡ a = omega arith in
    let e1 : n / 65536 % 256 ≡ b = omega arith in
    let e2 : n / 256 % 256 ≡ c = omega arith in
    let e3 : n % 256 ≡ d = omega arith in
    cc

pub forth8 : (xs : List ℕ) → length xs ≡ 8 → Bytes xs → be8 (number8 xs) ≡ xs
forth8 xs h b =
    let b0 = b 0 in let b1 = b 1 in let b2 = b 2 in let b3 = b 3 in
    let b4 = b 4 in let b5 = b 5 in let b6 = b 6 in let b7 = b 7 in
    let e0 : number8 xs / 72057594037927936 % 256 ≡ slice_index_or xs 0 0 = omega arith in
    let e1 : number8 xs / 281474976710656 % 256 ≡ slice_index_or xs 1 0 = omega arith in
    let e2 : number8 xs / 1099511627776 % 256 ≡ slice_index_or xs 2 0 = omega arith in
    let e3 : number8 xs / 4294967296 % 256 ≡ slice_index_or xs 3 0 = omega arith in
    let e4 : number8 xs / 16777216 % 256 ≡ slice_index_or xs 4 0 = omega arith in
    let e5 : number8 xs / 65536 % 256 ≡ slice_index_or xs 5 0 = omega arith in
    let e6 : number8 xs / 256 % 256 ≡ slice_index_or xs 6 0 = omega arith in
    let e7 : number8 xs % 256 ≡ slice_index_or xs 7 0 = omega arith in
    let l = is_listed 8 0 xs h in
    cc
