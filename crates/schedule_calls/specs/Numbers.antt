-- Numbers of any size, as a schedule writes them.
use Rattle.std.specs.Prelude.{ℕ, Bool, cond, not, ◌&&◌, ◌==◌, List, [], ◌∷◌, length, unwrap_or, Result, Ok, Err, decimal}
use Rattle.std.specs.Char.{is_ascii_digit}
use Rattle.std.specs.List.{list_all}
use Rattle.notation.specs.Numbers.{number_of}
use Rattle.schedule_calls.specs.declared.numbers.Number.{Number}
use Rattle.schedule_calls.specs.declared.numbers.Number.TheVariants.{Index, Larger}
use Rattle.schedule_calls.specs.declared.reason.Reason.{Reason}
use Rattle.schedule_calls.specs.declared.reason.Reason.TheVariants.{Number as NoNumber}

-- one or more decimal digits
abbrev pub is_number : List ℕ → Bool
is_number w = not (length w == 0) && list_all is_ascii_digit w

-- the number that digits write, or the largest where it is above that
abbrev pub capped_at : ℕ → List ℕ → Result ℕ Reason
capped_at most w = cond (is_number w) (Ok (unwrap_or (number_of most w) most)) (Err NoNumber)

-- a number of the library's
abbrev pub index_of : List ℕ → Result ℕ Reason
index_of w = capped_at 18446744073709551615 w

-- digits without leading zeros; of zeros alone one is kept
abbrev pub without_zeros : List ℕ → List ℕ
without_zeros [] = []
without_zeros (c ∷ cs) = cond ((c == 48) && not (length cs == 0)) (without_zeros cs) (c ∷ cs)

-- a number as it is printed, and as it is handed on
pub record Numeral : Type 0 where
  pub digits : List ℕ
  pub value : ℕ

abbrev pub numeral : Number → Numeral
numeral (Index n) = record { digits = decimal n; value = n }
numeral (Larger digits) = record { digits = digits.now; value = 18446744073709551615 }

-- the number with these digits, or the reason why there is none
abbrev pub with_digits : List ℕ → Result ℕ Reason → Result Numeral Reason
with_digits ds (Ok n) = Ok (record { digits = ds; value = n })
with_digits ds (Err reason) = Err reason

-- the number that a word writes
abbrev pub numeral_of : List ℕ → Result Numeral Reason
numeral_of w = with_digits (without_zeros w) (index_of w)
