-- Words by their letters.
use Rattle.std.proofs.Common.{◌≡◌, ℕ, ◌+◌, ◌<◌, Bool, true, false, not, ◌&&◌, ◌==◌, List, [], ◌∷◌, length, get_or, drop, Some, sym, ap, ◌∙◌, arith}
use Rattle.std.proofs.lemmas.Bool.Decides.{nat_tests}
use Rattle.std.proofs.lemmas.List.{drop_more, drop_all}
use Rattle.std.proofs.lemmas.List.Sums.{AllPass-from_list_all}
use Rattle.std.proofs.lemmas.Str.{IsUtf8-from_ascii}
use Rattle.std.proofs.lemmas.Str.Ascii.{IsAscii-from_reads}
use Rattle.std.specs.Char.{is_ascii_alphanumeric}
use Rattle.std.specs.List.{list_all}
use Rattle.std.specs.Str.{IsUtf8}
use Rattle.schedule_calls.specs.declared.reason.Form.{Form}
use Rattle.schedule_calls.specs.Commands.{form_named, is_name}

-- from place k on the word has these letters
abbrev pub Spells : List ℕ → ℕ → List ℕ → Type 0
Spells w k [] = Unit {0}
Spells w k (d ∷ ds) = (get_or w k 0 ≡ d) × Spells w (k + 1) ds

spelled_from : (w ds : List ℕ) (k : ℕ) → length w ≡ k + length ds → Spells w k ds → drop k w ≡ ds
spelled_from w [] k h s = drop_all k w (omega arith)
spelled_from w (d ∷ ds) k h s =
    drop_more w k 0 (omega arith) ∙ ap (λ x. x ∷ drop (k + 1) w) s.0 ∙ ap (λ xs. d ∷ xs) (spelled_from w ds (k + 1) (omega arith) s.1)

spelled : (w ds : List ℕ) → length w ≡ length ds → Spells w 0 ds → w ≡ ds
spelled w ds h s = spelled_from w ds 0 (omega arith) s

-- a word with the letters of a name names its command
pub named : (w ds : List ℕ) (form : Form) → length w ≡ length ds → Spells w 0 ds → form_named ds ≡ Some form → Some form ≡ form_named w
named w ds form h s e = sym (ap form_named (spelled w ds h s) ∙ e)

letter_small : (c : ℕ) → is_ascii_alphanumeric c ≡ true → c < 128
letter_small c h = grind (arith, nat_tests)

both_right : (a b : Bool) → (a && b) ≡ true → b ≡ true
both_right true b h = h
both_right false b h = cc

letters_text : (w : List ℕ) → list_all is_ascii_alphanumeric w ≡ true → IsUtf8 w
letters_text w h = IsUtf8-from_ascii w (IsAscii-from_reads w (length w) (omega arith) (λ k l. letter_small (get_or w k 0) (AllPass-from_list_all is_ascii_alphanumeric w h k 0 l)))

-- a name is text
pub name_text : (w : List ℕ) → is_name w ≡ true → IsUtf8 w
name_text w h = letters_text w (both_right (not (length w == 0)) (list_all is_ascii_alphanumeric w) h)
