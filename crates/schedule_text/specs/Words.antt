-- The words of a line.
use Rattle.std.specs.Prelude.{ℕ, cond, List, [], ◌∷◌, ◌++◌, map, ◌==◌}
use Rattle.std.specs.Borrow.{Bor}

-- what words that are lent hold
abbrev pub texts : List (Bor (List ℕ)) → List (List ℕ)
texts ws = map (λ w. w.now) ws

-- a word, unless it is empty, before those that follow
abbrev pub ended : List ℕ → List (List ℕ) → List (List ℕ)
ended [] ws = ws
ended (c ∷ cs) ws = (c ∷ cs) ∷ ws

-- the words of a line of which a word was begun
abbrev pub words_on : List ℕ → List ℕ → List (List ℕ)
words_on begun [] = ended begun []
words_on begun (c ∷ cs) = cond (c == 32) (ended begun (words_on [] cs)) (words_on (begun ++ c ∷ []) cs)

-- the words, which one or more spaces separate
abbrev pub words_of : List ℕ → List (List ℕ)
words_of line = words_on [] line
