-- Bytes as hexadecimal digits in lower case, two to a byte, the high half first.
use Rattle.std.specs.Prelude.{◌≡◌, ℕ, zero, suc, ◌+◌, ◌-◌, ◌*◌, ◌/◌, ◌%◌, cond, List, [], ◌∷◌, length, Some, None, Option, nat_lt}
use Rattle.std.specs.Option.{option_map}
use Rattle.std.specs.Int.{is_in_range}
use Rattle.kinds.specs.Bytes.{Bytes}

-- '0' to '9', then 'a' to 'f'
abbrev pub hex_digit : ℕ → ℕ
hex_digit h = cond (nat_lt h 10) (48 + h) (87 + h)

abbrev pub hex : List ℕ → List ℕ
hex [] = []
hex (b ∷ bs) = hex_digit (b / 16) ∷ hex_digit (b % 16) ∷ hex bs

abbrev pub digit_value : ℕ → Option ℕ
digit_value c = cond (is_in_range 48 57 c) (Some (c - 48)) (cond (is_in_range 97 102 c) (Some (c - 87)) None)

-- the byte of two digits, before the bytes that follow
abbrev pub byte_then : Option ℕ → Option ℕ → Option (List ℕ) → Option (List ℕ)
byte_then (Some high) (Some low) rest = option_map (λ bs. (high * 16 + low) ∷ bs) rest
byte_then (Some high) None rest = None
byte_then None low rest = None

-- the bytes of exactly two digits for each of n bytes
abbrev pub unhexed : ℕ → List ℕ → Option (List ℕ)
unhexed zero [] = Some []
unhexed zero (c ∷ cs) = None
unhexed (suc n) [] = None
unhexed (suc n) (c ∷ []) = None
unhexed (suc n) (c ∷ d ∷ ds) = byte_then (digit_value c) (digit_value d) (unhexed n ds)

-- The law: bytes that are written are read back, and digits that are read are those that the bytes are written as.
pub record ReadsBack : Type 0 where
  pub back : (bs : List ℕ) → Bytes bs → unhexed (length bs) (hex bs) ≡ Some bs
  pub forth : (n : ℕ) (ds bs : List ℕ) → unhexed n ds ≡ Some bs → hex bs ≡ ds
