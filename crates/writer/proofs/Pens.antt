-- What a pen lays, one form after the other.
use Rattle.std.proofs.Common.{◌≡◌, ℕ, ◌+◌, ◌<◌, List, [], ◌∷◌, ◌++◌, length, get_or, take, drop, sym, ap, ◌∙◌, zero-add, arith}
use Rattle.std.specs.List.{flat_map}
use Rattle.std.proofs.lemmas.List.{length-append, take_more, flat_map_more}
use Rattle.std.proofs.lemmas.List.Folds.{length-flat_map-take}
use Rattle.writer.specs.declared.laying.Pen.{Pen}
use Rattle.model.specs.Tables.{laid}
use Rattle.archive.specs.Laying.{laid_over}
use Rattle.writer.specs.Pens.{HasRoom, Lays}
use Rattle.archive.proofs.Laid.{laid_next, laid_long}

pub lays_as : (p q : Pen) (xs ys : List ℕ) → xs ≡ ys → Lays p xs q → Lays p ys q
lays_as p q xs ys e a = (a.0, (a.1.0 ∙ ap (λ zs. laid_over p.at zs p.space.now) e, a.1.1 ∙ ap (λ zs. p.at + length zs) e))

-- the room that is left
pub lays_room : (p q : Pen) (xs : List ℕ) (n : ℕ) → HasRoom p (length xs + n) → Lays p xs q → HasRoom q n
lays_room p q xs n h a = let l = ap length a.1.0 ∙ laid_long p.at xs p.space.now (omega arith) in omega (arith, l, a.1.1)

-- what is laid right behind is laid with it
pub lays_both : (p q r : Pen) (xs ys : List ℕ) → HasRoom p (length xs) → Lays p xs q → Lays q ys r → Lays p (xs ++ ys) r
lays_both p q r xs ys h a b =
    let l = length-append xs ys in
    (b.0 ∙ a.0, (laid_next p.at q.at xs ys p.space.now q.space.now r.space.now a.1.1 h a.1.0 b.1.0, omega (arith, a.1.1, b.1.1)))

pub lays_three : (p q r s : Pen) (xs ys zs : List ℕ) → HasRoom p (length xs + length ys) → Lays p xs q → Lays q ys r → Lays r zs s → Lays p (xs ++ (ys ++ zs)) s
lays_three p q r s xs ys zs h a b d = lays_both p q s xs (ys ++ zs) (omega arith) a (lays_both q r s ys zs (lays_room p q xs (length ys) h a) b d)

pub lays_four : (p q r s t : Pen) (ws xs ys zs : List ℕ) → HasRoom p (length ws + (length xs + length ys)) → Lays p ws q → Lays q xs r → Lays r ys s → Lays s zs t → Lays p (ws ++ (xs ++ (ys ++ zs))) t
lays_four p q r s t ws xs ys zs h a b d e =
    lays_both p q t ws (xs ++ (ys ++ zs)) (omega arith) a (lays_three q r s t xs ys zs (lays_room p q ws (length xs + length ys) h a) b d e)

-- what a pen leaves in a space that it was given, from the start on
pub leaves : (p q : Pen) (xs d : List ℕ) → p.at ≡ 0 → p.space.now ≡ d → Lays p xs q → q.space.now ≡ laid xs d
leaves p q xs d e f a = a.1.0 ∙ ap (λ n. laid_over n xs p.space.now) e ∙ ap (laid_over 0 xs) f ∙ ap (λ n. xs ++ drop n d) (zero-add (length xs))

-- a part more of each of some items
module _ {E : Type 0} (one : E → List ℕ) (es : List E) (i : ℕ) (x : E) where
  pub parts_next : i < length es → x ≡ get_or es i x → flat_map one (take i es) ++ one x ≡ flat_map one (take (i + 1) es)
  parts_next h e = flat_map_more one [] (take i es) x ∙ ap (λ y. flat_map one (take i es ++ y ∷ [])) e ∙ ap (flat_map one) (sym (take_more es i x h))

  pub parts_long : i < length es → x ≡ get_or es i x → length (flat_map one (take (i + 1) es)) ≡ length (flat_map one (take i es)) + length (one x)
  parts_long h e = sym (ap length (parts_next h e)) ∙ length-append (flat_map one (take i es)) (one x)

module _ {E : Type 0} (one : E → List ℕ) (es : List E) (p q : Pen) (i : ℕ) where
  pub parts_room : (x : E) → i < length es → x ≡ get_or es i x → HasRoom p (length (flat_map one es)) → Lays p (flat_map one (take i es)) q → HasRoom q (length (one x))
  parts_room x h r w a =
      let k = length-flat_map-take one es i x h in
      let e : length (one x) ≡ length (one (get_or es i x)) = ap (λ y. length (one y)) r in
      lays_room p q (flat_map one (take i es)) (length (one x)) (omega arith) a

  pub parts_more : (r : Pen) (x : E) → i < length es → x ≡ get_or es i x → HasRoom p (length (flat_map one es)) → Lays p (flat_map one (take i es)) q → Lays q (one x) r
      → Lays p (flat_map one (take (i + 1) es)) r
  parts_more r x h e w a b =
      let k = length-flat_map-take one es i x h in
      lays_as p r (flat_map one (take i es) ++ one x) (flat_map one (take (i + 1) es))
      (parts_next one es i x h e)
      (lays_both p q r (flat_map one (take i es)) (one x) (omega arith) a b)
