-- Numbers as text: one or more decimal digits.
use Rattle.std.specs.Prelude.{ℕ, ◌+◌, ◌-◌, ◌*◌, cond, ◌&&◌, List, [], ◌∷◌, length, Some, None, Option, nat_le, nat_lt}
use Rattle.std.specs.Str.{all_ascii_digits}

-- the number that digits write after the number n
abbrev pub value_on : ℕ → List ℕ → ℕ
value_on n [] = n
value_on n (c ∷ cs) = value_on (n * 10 + (c - 48)) cs

-- the number that a text writes, where it is one or more digits and not above the largest
abbrev pub number_of : ℕ → List ℕ → Option ℕ
number_of most ds = cond (nat_lt 0 (length ds) && (all_ascii_digits ds && nat_le (value_on 0 ds) most)) (Some (value_on 0 ds)) None
