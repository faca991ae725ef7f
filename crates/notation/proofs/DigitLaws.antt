-- Digits read one by one, where the next takes the number above the largest.
use Rattle.std.proofs.Common.{◌≡◌, ℕ, suc, ◌+◌, ◌-◌, ◌*◌, ◌<◌, Bool, true, false, List, ◌∷◌, None, length, drop, get_or, refl, ◌∙◌, drop-cons}
use Rattle.std.specs.Char.{is_ascii_digit}
use Rattle.notation.specs.NumberLaws.{read_on, read_digit, read_other, read_past as above}

-- nothing is read then, whether that is a digit or not
pub read_past : (most n i : ℕ) (ds : List ℕ) → i < length ds → most < n * 10 + (get_or ds i 0 - 48) → read_on most n (drop i ds) ≡ None
read_past most n i ds h k = rw (drop-cons ds i 0) (past (get_or ds i 0) (drop (suc i) ds) k) where
  past : (c : ℕ) (cs : List ℕ) → most < n * 10 + (c - 48) → read_on most n (c ∷ cs) ≡ None
  past c cs k = by (is_ascii_digit c) refl where
    by : (t : Bool) → is_ascii_digit c ≡ t → read_on most n (c ∷ cs) ≡ None
    by true e = read_digit most n c cs e ∙ above most (n * 10 + (c - 48)) cs k
    by false e = read_other most n c cs e
