-- The first line of an input.
use Rattle.std.proofs.Common.{◌≡◌, ℕ, ◌<◌, Bool, true, false, cond, eqb, List, [], ◌∷◌, ◌++◌, length, Some, None, Option, sym, refl, ap, ◌∙◌, append_assoc, append-nil, arith}
use Rattle.std.specs.Option.{option_map}
use Rattle.notation.specs.Cuts.{Cut, longer, cut_at}
use Rattle.schedule_text.specs.Words.{ended}
use Rattle.schedule_text.specs.Lines.{lines_on, lines_of}

-- what a cut at the first line feed says of the lines, where a line was begun
pub record First (begun w : List ℕ) (p : Cut) : Type 0 where
  pub lines : lines_on begun w ≡ (begun ++ p.front) ∷ lines_on [] p.back
  pub shorter : length p.back < length w

pub cut_line : (w begun : List ℕ) (p : Cut) → cut_at 10 w ≡ Some p → First begun w p
cut_line [] begun p e = absurd (cc)
cut_line (c ∷ cs) begun p e = by (eqb c 10) (cut_at 10 cs) refl refl (cut_line cs (begun ++ c ∷ [])) e
  where
    by : (t : Bool) (o : Option Cut) → eqb c 10 ≡ t → cut_at 10 cs ≡ o → ((r : Cut) → cut_at 10 cs ≡ Some r → First (begun ++ c ∷ []) cs r) → cond t (Some (record { front = []; back = cs })) (option_map (longer c) o) ≡ Some p → First begun (c ∷ cs) p
    by true o t is more q =
        let at : record { front = []; back = cs } ≡ p = cc in
        record {
          lines = ap (λ b. cond b (begun ∷ lines_on [] cs) (lines_on (begun ++ c ∷ []) cs)) t ∙ ap (λ b. b ∷ lines_on [] cs) (sym (append-nil begun)) ∙ ap (λ (r : Cut). (begun ++ r.front) ∷ lines_on [] r.back) at;
          shorter = let l : length cs ≡ length p.back = ap (λ (r : Cut). length r.back) at in omega arith;
        }
    by false None t is more q = absurd (cc)
    by false (Some r) t is more q =
        let at : longer c r ≡ p = cc in
        let f = more r is in
        record {
          lines = ap (λ b. cond b (begun ∷ lines_on [] cs) (lines_on (begun ++ c ∷ []) cs)) t ∙ f.lines ∙ ap (λ b. b ∷ lines_on [] r.back) (append_assoc begun (c ∷ []) r.front) ∙ ap (λ (s : Cut). (begun ++ s.front) ∷ lines_on [] s.back) at;
          shorter = let l : length r.back ≡ length p.back = ap (λ (s : Cut). length s.back) at in let m = f.shorter in omega arith;
        }

last_line : (w begun : List ℕ) → cut_at 10 w ≡ None → lines_on begun w ≡ ended (begun ++ w) []
last_line [] begun e = ap (λ b. ended b []) (sym (append-nil begun))
last_line (c ∷ cs) begun e = by (eqb c 10) (cut_at 10 cs) refl refl (last_line cs (begun ++ c ∷ [])) e
  where
    by : (t : Bool) (o : Option Cut) → eqb c 10 ≡ t → cut_at 10 cs ≡ o → (cut_at 10 cs ≡ None → lines_on (begun ++ c ∷ []) cs ≡ ended ((begun ++ c ∷ []) ++ cs) []) → cond t (Some (record { front = []; back = cs })) (option_map (longer c) o) ≡ None → lines_on begun (c ∷ cs) ≡ ended (begun ++ c ∷ cs) []
    by true o t is more q = absurd (cc)
    by false (Some r) t is more q = absurd (cc)
    by false None t is more q =
        ap (λ b. cond b (begun ∷ lines_on [] cs) (lines_on (begun ++ c ∷ []) cs)) t ∙ more is
        ∙ ap (λ b. ended b []) (append_assoc begun (c ∷ []) cs)

-- a last line that no line feed ends is the only one
pub only_line : (w : List ℕ) → cut_at 10 w ≡ None → 0 < length w → lines_of w ≡ w ∷ []
only_line w e h = last_line w [] e ∙ some w h
  where
    some : (v : List ℕ) → 0 < length v → ended v [] ≡ v ∷ []
    some [] h = absurd (omega arith)
    some (c ∷ cs) h = refl
