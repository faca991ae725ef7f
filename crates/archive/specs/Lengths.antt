-- The length of a block of r looks and p puts.
use Rattle.std.specs.Prelude.{ℕ, ◌+◌, ◌*◌, ◌/◌, ◌%◌, Bool, cond, ◌&&◌, Some, None, Option, ◌==◌, nat_le}

abbrev pub block_length : ℕ → ℕ → ℕ
block_length r p = 16 + 22 * r + 14 * p

-- the place 17 r + p of the table of lengths
abbrev pub listed_length : ℕ → ℕ
listed_length place = block_length (place / 17) (place % 17)

-- the length of a block, none where there are more than 16 looks or puts
abbrev pub length_listed : ℕ → ℕ → Option ℕ
length_listed r p = cond (nat_le r 16 && nat_le p 16) (Some (block_length r p)) None

-- at most 16 looks, at most 16 puts, and the length that they take
abbrev pub length_right : ℕ → ℕ → ℕ → Bool
length_right r p len = nat_le r 16 && (nat_le p 16 && len == block_length r p)
