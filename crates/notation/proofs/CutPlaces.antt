-- The place at which a word is cut.
use Rattle.std.proofs.Common.{◌≡◌, ℕ, ◌+◌, ◌-◌, Bool, true, false, cond, not, nat_lt, List, [], ◌∷◌, length, take, drop, Some, None, Option, refl, sym, ap, ◌∙◌, ◌==◌, arith}
use Rattle.std.specs.Option.{option_map}
use Rattle.std.specs.List.{position_or_len, position}
use Rattle.std.proofs.lemmas.List.{take_rest}
use Rattle.std.proofs.lemmas.Bool.Decides.{nat_tests}
use Rattle.std.proofs.lemmas.Grind.{common_steps}
use Rattle.notation.specs.Cuts.{Cut, longer, cut_at}

-- the parts before and after the place i
abbrev pub parts : List ℕ → ℕ → Cut
parts w i = record { front = take i w; back = drop (i + 1) w }

-- the parts at a place, if it is within the word
abbrev parts_within : List ℕ → ℕ → ℕ → Option Cut
parts_within w i n = cond (nat_lt i n) (Some (parts w i)) None

longer_within : (c : ℕ) (cs : List ℕ) (i : ℕ) (b : Bool) → option_map (longer c) (cond b (Some (parts cs i)) None) ≡ cond b (Some (parts (c ∷ cs) (1 + i))) None
longer_within c cs i true = grind (arith, common_steps)
longer_within c cs i false = refl

cut_within : (mark : ℕ) (w : List ℕ) → cut_at mark w ≡ parts_within w (position_or_len (λ c. c == mark) w) (length w)
cut_within mark [] = refl
cut_within mark (c ∷ cs) = by (c == mark) (cut_within mark cs)
  where
    by : (b : Bool) → cut_at mark cs ≡ parts_within cs (position_or_len (λ d. d == mark) cs) (length cs) → cond b (Some (record { front = []; back = cs })) (option_map (longer c) (cut_at mark cs)) ≡ parts_within (c ∷ cs) (cond (not b) (1 + position_or_len (λ d. d == mark) cs) 0) (length (c ∷ cs))
    by true e = grind (arith, common_steps)
    by false e =
        let n = position_or_len (λ d. d == mark) cs in
        let t : nat_lt n (length cs) ≡ nat_lt (1 + n) (length (c ∷ cs)) = grind (arith, nat_tests) in
        ap (option_map (longer c)) e ∙ longer_within c cs n (nat_lt n (length cs)) ∙ ap (λ b. cond b (Some (parts (c ∷ cs) (1 + n))) None) t

parts_at : (w : List ℕ) (n i : ℕ) (b : Bool) → Some i ≡ cond b (Some n) None → cond b (Some (parts w n)) None ≡ Some (parts w i)
parts_at w n i true e = let same : n ≡ i = cc in ap (λ k. Some (parts w k)) same
parts_at w n i false e = absurd (cc)

parts_none : (w : List ℕ) (n : ℕ) (b : Bool) → None ≡ cond b (Some n) None → cond b (Some (parts w n)) None ≡ None
parts_none w n true e = absurd (cc)
parts_none w n false e = refl

-- where a mark was found at the place i, and where none was
pub cut_found : (mark i : ℕ) (w : List ℕ) → Some i ≡ position (λ c. c == mark) w → cut_at mark w ≡ Some (record { front = take i w; back = take (length w - (i + 1)) (drop (i + 1) w) })
cut_found mark i w e =
    let n = position_or_len (λ c. c == mark) w in
    cut_within mark w ∙ parts_at w n i (nat_lt n (length w)) e ∙ ap (λ b. Some (record { front = take i w; back = b })) (sym (take_rest w (i + 1)))

pub cut_missing : (mark : ℕ) (w : List ℕ) → None ≡ position (λ c. c == mark) w → cut_at mark w ≡ None
cut_missing mark w e = let n = position_or_len (λ c. c == mark) w in cut_within mark w ∙ parts_none w n (nat_lt n (length w)) e
