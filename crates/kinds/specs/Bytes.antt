-- Numbers in bytes, high byte first.
use Rattle.std.specs.Prelude.{ℕ, ◌+◌, ◌*◌, ◌/◌, ◌%◌, ◌<◌, List, [], ◌∷◌, take, drop, slice_index}

-- the low 16 bits of a number in 2 bytes
abbrev pub be2 : ℕ → List ℕ
be2 n = (n / 256 % 256) ∷ (n % 256) ∷ []

-- the low 32 bits in 4 bytes
abbrev pub be4 : ℕ → List ℕ
be4 n = (n / 16777216 % 256) ∷ (n / 65536 % 256) ∷ (n / 256 % 256) ∷ (n % 256) ∷ []

-- the low 64 bits in 8 bytes
abbrev pub be8 : ℕ → List ℕ
be8 n =
    (n / 72057594037927936 % 256) ∷ (n / 281474976710656 % 256) ∷ (n / 1099511627776 % 256) ∷ (n / 4294967296 % 256)
    ∷ (n / 16777216 % 256) ∷ (n / 65536 % 256) ∷ (n / 256 % 256) ∷ (n % 256) ∷ []

-- the number in the first 2, 4 or 8 bytes
abbrev pub number2 : List ℕ → ℕ
number2 b = slice_index b 0 * 256 + slice_index b 1

abbrev pub number4 : List ℕ → ℕ
number4 b = slice_index b 0 * 16777216 + slice_index b 1 * 65536 + slice_index b 2 * 256 + slice_index b 3

abbrev pub number8 : List ℕ → ℕ
number8 b =
    slice_index b 0 * 72057594037927936 + slice_index b 1 * 281474976710656 + slice_index b 2 * 1099511627776 + slice_index b 3 * 4294967296
    + slice_index b 4 * 16777216 + slice_index b 5 * 65536 + slice_index b 6 * 256 + slice_index b 7

-- every element is a byte
abbrev pub Bytes : List ℕ → Type 0
Bytes bs = (k : ℕ) → slice_index bs k < 256

-- w bytes from a place on
abbrev pub part : List ℕ → ℕ → ℕ → List ℕ
part bs at w = take w (drop at bs)
