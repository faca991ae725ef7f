-- What a loop over a line has found of its words.
use Rattle.std.proofs.Common.{◌≡◌, ℕ, ◌+◌, ◌<◌, ◌≤◌, cond, List, [], ◌∷◌, ◌++◌, length, get_or, take, drop, sym, refl, ap, ◌∙◌, append_assoc, append-nil, arith, Bor}
use native.Mathlib.Nat.{sub_self}
use Rattle.std.specs.List.{between}
use Rattle.std.proofs.lemmas.List.{at_drop_more, at_drop_all, map-append}
use Rattle.std.proofs.lemmas.List.Edits.{between_more, length-between}
use Rattle.std.proofs.lemmas.Bool.{eq-eqb, ne_eqb}
use Rattle.schedule_text.specs.Words.{texts, ended, words_on}

abbrev Lent : Type 0
Lent = Bor (List ℕ)

-- the words that were found, before those of what is left, of which a word was begun
abbrev pub found_then : List Lent → List ℕ → List ℕ → List (List ℕ)
found_then ws begun left = texts ws ++ words_on begun left

pub at_found : (line : List ℕ) (j : ℕ) (fs gs : List Lent) (s t : ℕ) → fs ≡ gs → s ≡ t → found_then fs (between s j line) (drop j line) ≡ found_then gs (between t j line) (drop j line)
at_found line j fs gs s t e f =
    ap (λ x. found_then x (between s j line) (drop j line)) e ∙ ap (λ k. found_then gs (between k j line) (drop j line)) f

ended_some : (w : List ℕ) (ws : List (List ℕ)) → 0 < length w → ended w ws ≡ w ∷ ws
ended_some [] ws h = absurd (omega arith)
ended_some (c ∷ cs) ws h = refl

texts_one : (ws : List Lent) (w : Lent) (more : List (List ℕ)) → texts (ws ++ w ∷ []) ++ more ≡ texts ws ++ w.now ∷ more
texts_one ws w more = ap (λ l. l ++ more) (map-append (λ r. r.now) ws (w ∷ [])) ∙ append_assoc (texts ws) (w.now ∷ []) more

begun_none : (i : ℕ) (line : List ℕ) → between i i line ≡ []
begun_none i line = ap (λ k. take k (drop i line)) (sub_self i)

at_space : (begun line : List ℕ) (i : ℕ) → i < length line → get_or line i 0 ≡ 32 → words_on begun (drop i line) ≡ ended begun (words_on [] (drop (i + 1) line))
at_space begun line i h e =
    at_drop_more (words_on begun) line i 0 h
    ∙ ap (λ t. cond t (ended begun (words_on [] (drop (i + 1) line))) (words_on (begun ++ get_or line i 0 ∷ []) (drop (i + 1) line))) (eq-eqb (get_or line i 0) 32 e)

at_other : (begun line : List ℕ) (i : ℕ) → i < length line → (get_or line i 0 ≡ 32 → ⊥) → words_on begun (drop i line) ≡ words_on (begun ++ get_or line i 0 ∷ []) (drop (i + 1) line)
at_other begun line i h e =
    at_drop_more (words_on begun) line i 0 h
    ∙ ap (λ t. cond t (ended begun (words_on [] (drop (i + 1) line))) (words_on (begun ++ get_or line i 0 ∷ []) (drop (i + 1) line))) (ne_eqb (get_or line i 0) 32 e)

-- at a space after a word, at a space after a space, and in a word
pub word_ends : (ws : List Lent) (w : Lent) (line : List ℕ) (start i : ℕ) → i < length line → get_or line i 0 ≡ 32 → start < i → w.now ≡ between start i line → found_then (ws ++ w ∷ []) (between (i + 1) (i + 1) line) (drop (i + 1) line) ≡ found_then ws (between start i line) (drop i line)
word_ends ws w line start i h e s is =
    let left : List (List ℕ) = words_on [] (drop (i + 1) line) in
    let long = length-between line start i (omega arith) in
    ap (λ b. texts (ws ++ w ∷ []) ++ words_on b (drop (i + 1) line)) (begun_none (i + 1) line)
    ∙ texts_one ws w left ∙ ap (λ b. texts ws ++ b ∷ left) is
    ∙ ap (λ l. texts ws ++ l) (sym (at_space (between start i line) line i h e ∙ ended_some (between start i line) left (omega arith)))

pub no_word_ends : (ws : List Lent) (line : List ℕ) (start i : ℕ) → i < length line → get_or line i 0 ≡ 32 → start ≡ i → found_then ws (between (i + 1) (i + 1) line) (drop (i + 1) line) ≡ found_then ws (between start i line) (drop i line)
no_word_ends ws line start i h e s =
    ap (λ b. found_then ws b (drop (i + 1) line)) (begun_none (i + 1) line)
    ∙ ap (λ l. texts ws ++ l) (sym (at_space [] line i h e))
    ∙ ap (λ b. found_then ws b (drop i line)) (sym (begun_none i line)) ∙ ap (λ k. found_then ws (between k i line) (drop i line)) (sym s)

pub word_goes_on : (ws : List Lent) (line : List ℕ) (start i : ℕ) → i < length line → (get_or line i 0 ≡ 32 → ⊥) → start ≤ i → found_then ws (between start (i + 1) line) (drop (i + 1) line) ≡ found_then ws (between start i line) (drop i line)
word_goes_on ws line start i h e s =
    ap (λ b. found_then ws b (drop (i + 1) line)) (between_more line start i 0 s h)
    ∙ ap (λ l. texts ws ++ l) (sym (at_other (between start i line) line i h e))

-- at the line's end, in a word and after a space
pub last_word : (ws : List Lent) (w : Lent) (line : List ℕ) (start i : ℕ) → i ≡ length line → start < i → w.now ≡ between start (length line) line → texts (ws ++ w ∷ []) ≡ found_then ws (between start i line) (drop i line)
last_word ws w line start i h s is =
    let long = length-between line start i (omega arith) in
    sym (append-nil (texts (ws ++ w ∷ []))) ∙ texts_one ws w [] ∙ ap (λ b. texts ws ++ b ∷ []) (is ∙ ap (λ k. between start k line) (sym h))
    ∙ ap (λ l. texts ws ++ l) (sym (at_drop_all (words_on (between start i line)) line i (omega arith) ∙ ended_some (between start i line) [] (omega arith)))

pub no_last_word : (ws : List Lent) (line : List ℕ) (start i : ℕ) → i ≡ length line → start ≡ i → texts ws ≡ found_then ws (between start i line) (drop i line)
no_last_word ws line start i h s =
    sym (append-nil (texts ws))
    ∙ ap (λ l. texts ws ++ l) (sym (at_drop_all (words_on (between start i line)) line i (omega arith) ∙ ap (λ b. ended b []) (ap (λ k. between k i line) s ∙ begun_none i line)))
