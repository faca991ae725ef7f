-- Record numbers in a block, and what is asked of them.
use Rattle.std.specs.Prelude.{ℕ, zero, suc, ◌+◌, Bool, true, not, ◌&&◌, List, [], ◌∷◌, length, ◌==◌, nat_le, nat_lt, count_by}
use Rattle.std.specs.List.{list_all, list_any}
use Rattle.kinds.specs.Bytes.{number2, part}

-- so many record numbers, each so many bytes after the one before
abbrev pub numbers : List ℕ → ℕ → ℕ → ℕ → List ℕ
numbers bs at step zero = []
numbers bs at step (suc m) = number2 (part bs at 2) ∷ numbers bs (at + step) step m

abbrev pub all_below : ℕ → List ℕ → Bool
all_below n xs = list_all (λ x. nat_lt x n) xs

abbrev pub holds : ℕ → List ℕ → Bool
holds x ys = list_any (λ y. y == x) ys

-- none twice
abbrev pub apart : List ℕ → Bool
apart [] = true
apart (x ∷ xs) = not (holds x xs) && apart xs

-- how many of the second list are not in the first
abbrev pub beyond : List ℕ → List ℕ → ℕ
beyond xs ys = count_by (λ y. not (holds y xs)) ys

-- each below n, none twice among looks or among puts, and at most 16 different ones
abbrev pub names_right : ℕ → List ℕ → List ℕ → Bool
names_right n looks puts =
    all_below n looks && (all_below n puts && (apart looks && (apart puts && nat_le (length looks + beyond looks puts) 16)))
