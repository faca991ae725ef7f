-- Bytes laid over others.
use Rattle.std.specs.Prelude.{ℕ, ◌+◌, List, ◌++◌, length, take, drop}

-- some bytes laid over others, from a place on
abbrev pub laid_over : ℕ → List ℕ → List ℕ → List ℕ
laid_over at xs d = take at d ++ (xs ++ drop (at + length xs) d)
