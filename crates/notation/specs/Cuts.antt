-- Words in two parts, before and after a mark.
use Rattle.std.specs.Prelude.{ℕ, cond, List, [], ◌∷◌, Some, None, Option, ◌==◌}
use Rattle.std.specs.Option.{option_map}

pub record Cut : Type 0 where
  pub front : List ℕ
  pub back : List ℕ

abbrev pub longer : ℕ → Cut → Cut
longer c p = record { front = c ∷ p.front; back = p.back }

-- what stands before and after the first mark
abbrev pub cut_at : ℕ → List ℕ → Option Cut
cut_at mark [] = None
cut_at mark (c ∷ cs) = cond (c == mark) (Some (record { front = []; back = cs })) (option_map (longer c) (cut_at mark cs))
