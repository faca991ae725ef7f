-- Cuts: what a loop over the word has passed, and where a joined word is cut.
use Rattle.std.specs.Prelude.{◌≡◌, ℕ, ◌+◌, ◌-◌, ◌^◌, ◌<◌, ◌≤◌, true, cond, List, [], ◌∷◌, ◌++◌, length, take, drop, Some, None, decimal, Option, ◌≢◌, slice_index, refl}
use Rattle.std.proofs.Common.{sym, ap, ◌∙◌, append_assoc, append-nil}
use Rattle.std.proofs.Math.Nat.{sub-zero}
use Rattle.std.specs.Option.{option_map}
use Rattle.std.specs.Char.{is_ascii_digit}
use Rattle.std.specs.Str.{all_ascii_digits}
use Rattle.std.proofs.lemmas.List.{at_drop_more, at_drop_all, take_more, take_rest}
use Rattle.std.proofs.lemmas.Bool.{and_parts, ne_eqb, eq-eqb}
use Rattle.notation.specs.Cuts.{Cut, longer, cut_at}
use Rattle.notation.specs.NumberLaws.{decimal_digits}

-- a cut of what is left, after a front that was passed
abbrev pub after : List ℕ → Cut → Cut
after xs p = record { front = xs ++ p.front; back = p.back }

pub cut_here : (mark : ℕ) (c : ℕ) (cs : List ℕ) → c ≡ mark → cut_at mark (c ∷ cs) ≡ Some (record { front = []; back = cs })
cut_here mark c cs e = ap (λ t. cond t (Some (record { front = []; back = cs })) (option_map (longer c) (cut_at mark cs))) (eq-eqb c mark e)

pub cut_later : (mark : ℕ) (c : ℕ) (cs : List ℕ) → (c ≢ mark) → cut_at mark (c ∷ cs) ≡ option_map (longer c) (cut_at mark cs)
cut_later mark c cs e = ap (λ t. cond t (Some (record { front = []; back = cs })) (option_map (longer c) (cut_at mark cs))) (ne_eqb c mark e)

after_none : (o : Option Cut) → option_map (after []) o ≡ o
after_none None = refl
after_none (Some p) = refl

after_one : (xs : List ℕ) (c : ℕ) (o : Option Cut) → option_map (after xs) (option_map (longer c) o) ≡ option_map (after (xs ++ c ∷ [])) o
after_one xs c None = refl
after_one xs c (Some p) = ap (λ f. Some (record { front = f; back = p.back })) (sym (append_assoc xs (c ∷ []) p.front))

-- the loop's start, one turn past a byte that is no mark, and its two ends
pub passed_none : (mark : ℕ) (w : List ℕ) → option_map (after []) (cut_at mark w) ≡ cut_at mark w
passed_none mark w = after_none (cut_at mark w)

pub passed_more : (mark i : ℕ) (w : List ℕ) → i < length w → (slice_index w i ≢ mark) → option_map (after (take i w)) (cut_at mark (drop i w)) ≡ option_map (after (take (i + 1) w)) (cut_at mark (drop (i + 1) w))
passed_more mark i w h e =
    ap (option_map (after (take i w))) (at_drop_more (cut_at mark) w i 0 h ∙ cut_later mark (slice_index w i) (drop (i + 1) w) e)
    ∙ after_one (take i w) (slice_index w i) (cut_at mark (drop (i + 1) w))
    ∙ ap (λ xs. option_map (after xs) (cut_at mark (drop (i + 1) w))) (sym (take_more w i 0 h))

pub passed_mark : (mark i : ℕ) (w : List ℕ) → i < length w → slice_index w i ≡ mark → option_map (after (take i w)) (cut_at mark (drop i w)) ≡ Some (record { front = take (i - 0) w; back = take (length w - (i + 1)) (drop (i + 1) w) })
passed_mark mark i w h e =
    ap (option_map (after (take i w))) (at_drop_more (cut_at mark) w i 0 h ∙ cut_here mark (slice_index w i) (drop (i + 1) w) e)
    ∙ ap (λ f. Some (record { front = f; back = drop (i + 1) w })) (append-nil (take i w) ∙ ap (λ k. take k w) (sym (sub-zero i)))
    ∙ ap (λ b. Some (record { front = take (i - 0) w; back = b })) (sym (take_rest w (i + 1)))

pub passed_all : (mark i : ℕ) (w : List ℕ) → length w ≤ i → option_map (after (take i w)) (cut_at mark (drop i w)) ≡ None
passed_all mark i w h = ap (option_map (after (take i w))) (at_drop_all (cut_at mark) w i h)

-- digits hold no mark
pub digits_cut : (mark : ℕ) (ds ys : List ℕ) → (is_ascii_digit mark ≢ true) → all_ascii_digits ds ≡ true → cut_at mark (ds ++ mark ∷ ys) ≡ Some (record { front = ds; back = ys })
digits_cut mark [] ys h e = cut_here mark mark ys refl
digits_cut mark (c ∷ cs) ys h e =
    let p = and_parts (is_ascii_digit c) (all_ascii_digits cs) e in
    cut_later mark c (cs ++ mark ∷ ys) (λ s. h (ap is_ascii_digit (sym s) ∙ p.0)) ∙ ap (option_map (longer c)) (digits_cut mark cs ys h p.1)

pub decimal_cut : (mark n : ℕ) (ys : List ℕ) → (is_ascii_digit mark ≢ true) → n < 2 ^ 64 → cut_at mark (decimal n ++ mark ∷ ys) ≡ Some (record { front = decimal n; back = ys })
decimal_cut mark n ys h k = digits_cut mark (decimal n) ys h (decimal_digits n k)
