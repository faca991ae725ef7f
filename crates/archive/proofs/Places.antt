-- The place of a value, counted on from its entry and from its block.
use Rattle.std.proofs.Common.{◌≡◌, ℕ, ◌+◌, ◌*◌, arith}

pub look_values_at : (at : ℕ) → at + 26 ≡ at + 16 + 10
look_values_at at = omega arith

pub put_values_at : (at r : ℕ) → at + 18 + 22 * r ≡ at + 16 + 22 * r + 2
put_values_at at r = omega arith

pub next_look_value : (at : ℕ) → at + 10 + 22 ≡ at + 22 + 10
next_look_value at = omega arith

pub next_put_value : (at : ℕ) → at + 2 + 14 ≡ at + 14 + 2
next_put_value at = omega arith
