-- Items keep the law of their form.
use Rattle.std.specs.Prelude.{◌≡◌, ℕ, ◌%◌, ◌<◌, Bool, true, cond, ◌&&◌, List, [], ◌∷◌, ◌++◌, length, Some, None, ◌==◌, refl}
use Rattle.std.proofs.Common.{sym, ap, ◌∙◌, arith}
use Rattle.std.specs.Option.{option_map}
use Rattle.std.proofs.lemmas.Bool.Decides.{nat_tests}
use Rattle.kinds.specs.Bytes.{Bytes, be2, be4, number2, number4}
use Rattle.kinds.specs.Values.{Written}
use Rattle.kinds.specs.Item.{counted, item_tag, item_listed, item_written, item_read, item_kind}
use Rattle.kinds.specs.declared.item.Item.{Item}
use Rattle.kinds.specs.declared.item.Item.TheVariants.{Withdrawn, Solid, SubAssembly}
use Rattle.kinds.specs.ByteLaws.{Twelve, of_twelve, bytes_be2, bytes_be4, bytes_cons, bytes_append, bytes_zero3, bytes_nil, again2, again4, wrap2, back2, wrap4, forth2, forth4}

item_wide : (v : Item) → length (item_written v) ≡ 12
item_wide Withdrawn = refl
item_wide (Solid n) = refl
item_wide (SubAssembly m n) = refl

tag_small : (v : Item) → item_tag v < 256
tag_small Withdrawn = omega arith
tag_small (Solid n) = omega arith
tag_small (SubAssembly m n) = omega arith

zero4 : Bytes (0 ∷ 0 ∷ 0 ∷ 0 ∷ [])
zero4 = bytes_zero3 (0 ∷ []) (bytes_cons 0 [] (omega arith) bytes_nil)

values_bytes : (v : Item) → Bytes (item_listed v).values
values_bytes Withdrawn = zero4
values_bytes (Solid n) = bytes_be4 n
values_bytes (SubAssembly m n) = bytes_append (be2 m) (be2 (counted n)) (bytes_be2 m) (bytes_be2 (counted n))

item_bytes : (v : Item) → Bytes (item_written v)
item_bytes v =
    bytes_cons (item_tag v) (0 ∷ 0 ∷ 0 ∷ ((item_listed v).values ++ 0 ∷ 0 ∷ 0 ∷ 0 ∷ [])) (tag_small v)
    (bytes_zero3 ((item_listed v).values ++ 0 ∷ 0 ∷ 0 ∷ 0 ∷ []) (bytes_append (item_listed v).values (0 ∷ 0 ∷ 0 ∷ 0 ∷ []) (values_bytes v) zero4))

item_back : (v : Item) → option_map item_written (item_read (item_written v)) ≡ Some (item_written v)
item_back Withdrawn = refl
item_back (Solid n) =
    ap (λ k. Some (item_written (Solid k))) (wrap4 n) ∙ ap (λ xs. Some (1 ∷ 0 ∷ 0 ∷ 0 ∷ (xs ++ 0 ∷ 0 ∷ 0 ∷ 0 ∷ []))) (again4 n)
item_back (SubAssembly m n) =
    let w = wrap2 m in
    let k : number2 (be2 (counted n)) ≡ counted n = back2 (counted n) (omega arith) in
    let read : item_read (item_written (SubAssembly m n)) ≡ Some (SubAssembly (m % 65536) (counted n)) = grind (arith, nat_tests) in
    let twice : counted (counted n) ≡ counted n = omega arith in
    ap (option_map item_written) read
    ∙ ap (λ xs. Some (2 ∷ 0 ∷ 0 ∷ 0 ∷ ((xs ++ be2 (counted (counted n))) ++ 0 ∷ 0 ∷ 0 ∷ 0 ∷ []))) (again2 m)
    ∙ ap (λ c. Some (2 ∷ 0 ∷ 0 ∷ 0 ∷ ((be2 m ++ be2 c) ++ 0 ∷ 0 ∷ 0 ∷ 0 ∷ []))) twice

-- what an item that was read says of its bytes
abbrev ItemSays : Bool → ℕ → ℕ → ℕ → ℕ → Item → Type 0
ItemSays z tag n p q Withdrawn = (z ≡ true) × (tag ≡ 0) × (n ≡ 0)
ItemSays z tag n p q (Solid s) = (z ≡ true) × (tag ≡ 1) × (n ≡ s)
ItemSays z tag n p q (SubAssembly m c) = (z ≡ true) × (tag ≡ 2) × (p ≡ m) × (q ≡ c) × (0 < c)

item_from : (z : Bool) (tag n p q : ℕ) (v : Item) → cond z (cond (tag == 0) (cond (n == 0) (Some Withdrawn) None) (cond (tag == 1) (Some (Solid n)) (cond (tag == 2) (cond (q == 0) None (Some (SubAssembly p q))) None))) None ≡ Some v → ItemSays z tag n p q v
item_from z tag n p q Withdrawn h = grind (arith, nat_tests)
item_from z tag n p q (Solid s) h = grind (arith, nat_tests)
item_from z tag n p q (SubAssembly m c) h = grind (arith, nat_tests)

zeros7 : (x y z s : ℕ) → ((x == 0 && (y == 0 && z == 0)) && s == 0) ≡ true → (x ≡ 0) × (y ≡ 0) × (z ≡ 0) × (s ≡ 0)
zeros7 x y z s t = grind (arith, nat_tests)

nil4 : (i j k l : ℕ) → number4 (i ∷ j ∷ k ∷ l ∷ []) ≡ 0 → (i ≡ 0) × (j ≡ 0) × (k ≡ 0) × (l ≡ 0)
nil4 i j k l e = (omega arith, omega arith, omega arith, omega arith)

item_forth12 : (v : Item) → Twelve (λ bs. Bytes bs → item_read bs ≡ Some v → item_written v ≡ bs)
item_forth12 v a b c d e f g h i j k l t q =
    by v (item_from ((b == 0 && (c == 0 && d == 0)) && number4 (i ∷ j ∷ k ∷ l ∷ []) == 0) a (number4 (e ∷ f ∷ g ∷ h ∷ [])) (number2 (e ∷ f ∷ [])) (number2 (g ∷ h ∷ [])) v q)
  where
    framed : ((b == 0 && (c == 0 && d == 0)) && number4 (i ∷ j ∷ k ∷ l ∷ []) == 0) ≡ true → (tag x y z w : ℕ) → a ≡ tag → e ≡ x → f ≡ y → g ≡ z → h ≡ w → tag ∷ 0 ∷ 0 ∷ 0 ∷ x ∷ y ∷ z ∷ w ∷ 0 ∷ 0 ∷ 0 ∷ 0 ∷ [] ≡ a ∷ b ∷ c ∷ d ∷ e ∷ f ∷ g ∷ h ∷ i ∷ j ∷ k ∷ l ∷ []
    framed s tag x y z w p pe pf pg ph =
        let r = zeros7 b c d (number4 (i ∷ j ∷ k ∷ l ∷ [])) s in
        let n = nil4 i j k l r.3 in
        cc (r.0, r.1, r.2, n.0, n.1, n.2, n.3)

    by : (v : Item) → ItemSays ((b == 0 && (c == 0 && d == 0)) && number4 (i ∷ j ∷ k ∷ l ∷ []) == 0) a (number4 (e ∷ f ∷ g ∷ h ∷ [])) (number2 (e ∷ f ∷ [])) (number2 (g ∷ h ∷ [])) v → item_written v ≡ a ∷ b ∷ c ∷ d ∷ e ∷ f ∷ g ∷ h ∷ i ∷ j ∷ k ∷ l ∷ []
    by Withdrawn p = let n = nil4 e f g h p.2 in framed p.0 0 0 0 0 0 p.1 n.0 n.1 n.2 n.3
    by (Solid s) p =
        ap (λ xs. 1 ∷ 0 ∷ 0 ∷ 0 ∷ (xs ++ 0 ∷ 0 ∷ 0 ∷ 0 ∷ [])) (ap be4 (sym p.2) ∙ forth4 e f g h (t 4) (t 5) (t 6) (t 7))
        ∙ framed p.0 1 e f g h p.1 refl refl refl refl
    by (SubAssembly m s) p =
        let lt6 = t 6 in let lt7 = t 7 in
        let n : counted s ≡ number2 (g ∷ h ∷ []) = omega (arith, p) in
        ap (λ xs. 2 ∷ 0 ∷ 0 ∷ 0 ∷ ((xs ++ be2 (counted s)) ++ 0 ∷ 0 ∷ 0 ∷ 0 ∷ [])) (ap be2 (sym p.2) ∙ forth2 e f (t 4) (t 5))
        ∙ ap (λ xs. 2 ∷ 0 ∷ 0 ∷ 0 ∷ e ∷ f ∷ (xs ++ 0 ∷ 0 ∷ 0 ∷ 0 ∷ [])) (ap be2 n ∙ forth2 g h (t 6) (t 7))
        ∙ framed p.0 2 e f g h p.1 refl refl refl refl

item_forth : (bs : List ℕ) (v : Item) → length bs ≡ 12 → Bytes bs → item_read bs ≡ Some v → item_written v ≡ bs
item_forth bs v n = of_twelve (λ xs. Bytes xs → item_read xs ≡ Some v → item_written v ≡ xs) (item_forth12 v) bs n

pub item_laws : Written item_kind
item_laws = record { wide = item_wide; bytes = item_bytes; back = item_back; forth = item_forth }
