-- Cards keep the law of their form.
use Rattle.std.specs.Prelude.{◌≡◌, ℕ, ◌%◌, ◌<◌, Bool, true, false, cond, ◌&&◌, List, [], ◌∷◌, ◌++◌, length, Some, None, Option, ◌==◌, refl}
use Rattle.std.proofs.Common.{ap, ◌∙◌, arith}
use Rattle.std.specs.Option.{option_map}
use Rattle.std.proofs.lemmas.Bool.Decides.{nat_tests}
use Rattle.kinds.specs.Bytes.{Bytes, be4, number4}
use Rattle.kinds.specs.Values.{Written}
use Rattle.kinds.specs.Card.{unit_number, unit_numbered, with_unit, card_written, card_read, card_kind}
use Rattle.kinds.specs.declared.card.Card.{Card}
use Rattle.kinds.specs.declared.card.Unit.{Unit as Measure}
use Rattle.kinds.specs.declared.card.Unit.TheVariants.{Millimetre, Centimetre, Metre, Inch}
use Rattle.kinds.specs.ByteLaws.{Twelve, of_twelve, bytes_be4, bytes_cons, bytes_append, bytes_zero3, again4, wrap4, forth4}

unit_back : (u : Measure) → unit_numbered (unit_number u) ≡ Some u
unit_back Millimetre = refl
unit_back Centimetre = refl
unit_back Metre = refl
unit_back Inch = refl

unit_forth : (n : ℕ) (u : Measure) → unit_numbered n ≡ Some u → unit_number u ≡ n
unit_forth n Millimetre h = grind (arith, nat_tests)
unit_forth n Centimetre h = grind (arith, nat_tests)
unit_forth n Metre h = grind (arith, nat_tests)
unit_forth n Inch h = grind (arith, nat_tests)

unit_small : (u : Measure) → unit_number u < 256
unit_small Millimetre = omega arith
unit_small Centimetre = omega arith
unit_small Metre = omega arith
unit_small Inch = omega arith

card_bytes : (v : Card) → Bytes (card_written v)
card_bytes v =
    bytes_append (be4 v.revision) (unit_number v.unit ∷ 0 ∷ 0 ∷ 0 ∷ be4 v.mass) (bytes_be4 v.revision)
    (bytes_cons (unit_number v.unit) (0 ∷ 0 ∷ 0 ∷ be4 v.mass) (unit_small v.unit) (bytes_zero3 (be4 v.mass) (bytes_be4 v.mass)))

card_back : (v : Card) → option_map card_written (card_read (card_written v)) ≡ Some (card_written v)
card_back v =
    let r = wrap4 v.revision in let m = wrap4 v.mass in let u = unit_back v.unit in
    let read : card_read (card_written v) ≡ Some (record { revision = v.revision % 4294967296; unit = v.unit; mass = v.mass % 4294967296 }) = cc in
    let p = again4 v.revision in let q = again4 v.mass in
    cc

-- what a card that was read says of its bytes
record From (zeros : Bool) (unit : Option Measure) (r m : ℕ) (v : Card) : Type 0 where
  clear : zeros ≡ true
  unit_is : unit ≡ Some v.unit
  revision_is : v.revision ≡ r
  mass_is : v.mass ≡ m

card_from : (zeros : Bool) (unit : Option Measure) (r m : ℕ) (v : Card) → cond zeros (with_unit r m unit) None ≡ Some v → From zeros unit r m v
card_from true (Some u) r m v h = record { clear = refl; unit_is = cc; revision_is = cc; mass_is = cc }
card_from true None r m v h = let z : ◌≡◌ {A = ℕ} 0 1 = cc in absurd (omega arith)
card_from false u r m v h = let z : ◌≡◌ {A = ℕ} 0 1 = cc in absurd (omega arith)

zeros3 : (x y z : ℕ) → (x == 0 && (y == 0 && z == 0)) ≡ true → (x ≡ 0) × (y ≡ 0) × (z ≡ 0)
zeros3 x y z t = grind (arith, nat_tests)

card_forth12 : (v : Card) → Twelve (λ bs. Bytes bs → card_read bs ≡ Some v → card_written v ≡ bs)
card_forth12 v a b c d e f g h i j k l t q =
    let p = card_from (f == 0 && (g == 0 && h == 0)) (unit_numbered e) (number4 (a ∷ b ∷ c ∷ d ∷ [])) (number4 (i ∷ j ∷ k ∷ l ∷ [])) v q in
    let z = zeros3 f g h p.clear in
    let u = unit_forth e v.unit p.unit_is in
    let r : be4 v.revision ≡ a ∷ b ∷ c ∷ d ∷ [] = ap be4 p.revision_is ∙ forth4 a b c d (t 0) (t 1) (t 2) (t 3) in
    let m : be4 v.mass ≡ i ∷ j ∷ k ∷ l ∷ [] = ap be4 p.mass_is ∙ forth4 i j k l (t 8) (t 9) (t 10) (t 11) in
    ap (λ xs. xs ++ (unit_number v.unit ∷ 0 ∷ 0 ∷ 0 ∷ be4 v.mass)) r ∙ cc (z.0, z.1, z.2, u, m)

card_forth : (bs : List ℕ) (v : Card) → length bs ≡ 12 → Bytes bs → card_read bs ≡ Some v → card_written v ≡ bs
card_forth bs v n = of_twelve (λ xs. Bytes xs → card_read xs ≡ Some v → card_written v ≡ xs) (card_forth12 v) bs n

pub card_laws : Written card_kind
card_laws = record { wide = λ v. refl; bytes = card_bytes; back = card_back; forth = card_forth }
