-- What play answers for a space of values, and what is told of a space of forms.
use Rattle.std.proofs.Common.{◌≡◌, ℕ, ◌+◌, ◌*◌, ◌/◌, ◌≤◌, min, Bool, true, false, cond, ◌&&◌, eqb, leb, List, length, Ok, Err, Result, sym, refl, ap, ◌∙◌, subst, arith}
use Rattle.std.proofs.lemmas.Bool.{and_parts, eqb-true, eq-eqb}
use Rattle.kinds.specs.Stamps.{Order}
use Rattle.kinds.specs.Values.{RecordKind}
use Rattle.archive.specs.declared.fault.Fault.{Fault}
use Rattle.archive.specs.declared.fault.Fault.TheVariants.{SpaceWrong}
use Rattle.archive.specs.declared.heading.Heading.{Heading}
use Rattle.archive.specs.Faults.{onward}
use Rattle.archive.specs.Rule.{read_archive}
use Rattle.archive.specs.Values.{values_bytes, stated_values}
use Rattle.archive.specs.Played.{blocks_played, room_right, play_answer, play_leaves}
use Rattle.archive.proofs.Fields.{guarded}
use Rattle.archive.proofs.KnownArchive.{archive_says, stated_within}
use Rattle.archive_view.specs.Played.{fits, forms_after, forms_told}

-- an archive that was read has at most 1,024 records
few_records : {S R : Type 0} (o : Order S) (k : RecordKind R) (bs : List ℕ) (h : Heading) → read_archive o k bs ≡ Ok h → h.records ≤ 1024
few_records o k bs h q =
    let z = archive_says o k bs h q in
    subst (λ (y : Heading). y.records ≤ 1024) z.heading (stated_within o k bs h z).few_records

-- what is told of forms, of any that were read
abbrev told : Result Heading Fault → (Heading → List ℕ) → ℕ → ℕ → Result (List ℕ) Fault
told r f len m = onward r (λ h. cond (fits h len m) (Ok (f h)) (Err SpaceWrong))

err_same : {A : Type 0} (x y : Fault) → ◌≡◌ {A = Result A Fault} (Err x) (Err y) → x ≡ y
err_same x y h = cc

-- a space that is no room for the values is none for their forms
not_fit : (n len room : ℕ) (b : Bool) → n ≤ 1024 → room ≡ min (len / 12) 1024 → eqb room n && b ≡ false → eqb len (12 * n) && b ≡ false
not_fit n len room true l r p = by (eqb len (12 * n)) refl
  where
    by : (t : Bool) → eqb len (12 * n) ≡ t → t && true ≡ false
    by false e = refl
    by true e =
        let a : len ≡ 12 * n = eqb-true _ _ e in
        let c : room ≡ n = omega (arith, r, a, l) in
        let d = ap (λ u. u && true) (eq-eqb _ _ c) in
        let z : ◌≡◌ {A = Bool} true false = sym d ∙ p in
        z
not_fit n len room false l r p = by (eqb len (12 * n))
  where
    by : (t : Bool) → t && false ≡ false
    by false = refl
    by true = refl

refused : (r : Result Heading Fault) (f : Heading → List ℕ) (len room m : ℕ) (e : Fault) → ((h : Heading) → r ≡ Ok h → h.records ≤ 1024) → room ≡ min (len / 12) 1024
    → play_answer r room m ≡ Err e → told r f len m ≡ Err e
refused (Err x) f len room m e l q p = ap Err (err_same x e p)
refused (Ok h) f len room m e l q p = by (room_right h room m) refl p
  where
    by : (t : Bool) → room_right h room m ≡ t → cond t (Ok (tt {0})) (Err SpaceWrong) ≡ Err e → cond (fits h len m) (Ok (f h)) (Err SpaceWrong) ≡ Err e
    by true w u = let z : ◌≡◌ {A = ℕ} 0 1 = cc in absurd (omega arith)
    by false w u = ap (λ t. cond t (Ok (f h)) (Err SpaceWrong)) (not_fit h.records len room (leb m h.jobs) (l h refl) q w) ∙ ap Err (err_same SpaceWrong e u)

-- room for the values, but other bytes than their forms have
other_bytes : (r : Result Heading Fault) (f : Heading → List ℕ) (len room m : ℕ) (u : Unit {0}) → play_answer r room m ≡ Ok u → (len ≡ 12 * room → ⊥) → told r f len m ≡ Err SpaceWrong
other_bytes (Err x) f len room m u p n = let z : ◌≡◌ {A = ℕ} 0 1 = cc in absurd (omega arith)
other_bytes (Ok h) f len room m u p n =
    let g = guarded (room_right h room m) (Ok tt) SpaceWrong u p in
    let a = and_parts (eqb room h.records) _ g.0 in
    let c : room ≡ h.records = eqb-true _ _ a.0 in
    by (eqb len (12 * h.records)) refl c
  where
    by : (t : Bool) → eqb len (12 * h.records) ≡ t → room ≡ h.records → cond (t && leb m h.jobs) (Ok (f h)) (Err SpaceWrong) ≡ Err SpaceWrong
    by false e c = refl
    by true e c = absurd (n (eqb-true _ _ e ∙ ap (λ y. 12 * y) (sym c)))

module _ {S R : Type 0} (o : Order S) (k : RecordKind R) (bs : List ℕ) (len m : ℕ) (vs : List R) where
  -- play refused
  pub not_played : length vs ≡ min (len / 12) 1024 → (e : Fault) → Err e ≡ play_answer (read_archive o k bs) (length vs) m → forms_told o k bs len m ≡ Err e
  not_played q e p = refused (read_archive o k bs) (λ h. forms_after o k bs h m) len (length vs) m e (few_records o k bs) q (sym p)

  -- play left values, but the space is no room for their forms
  pub not_written : (u : Unit {0}) → Ok u ≡ play_answer (read_archive o k bs) (length vs) m → (len ≡ 12 * length vs → ⊥) → forms_told o k bs len m ≡ Err SpaceWrong
  not_written u p n = other_bytes (read_archive o k bs) (λ h. forms_after o k bs h m) len (length vs) m u (sym p) n

  -- their forms are written
  pub written : (u : Unit {0}) (ws : List R) (forms : List ℕ) → Ok u ≡ play_answer (read_archive o k bs) (length vs) m → len ≡ 12 * length vs
      → ws ≡ play_leaves k.form bs (read_archive o k bs) vs m → forms ≡ values_bytes k.form ws → forms_told o k bs len m ≡ Ok forms
  written u ws forms p l q w = by (read_archive o k bs) (sym p) q
    where
      by : (r : Result Heading Fault) → play_answer r (length vs) m ≡ Ok u → ws ≡ play_leaves k.form bs r vs m → told r (λ h. forms_after o k bs h m) len m ≡ Ok forms
      by (Err x) p q = let z : ◌≡◌ {A = ℕ} 0 1 = cc in absurd (omega arith)
      by (Ok h) p q =
          let g = guarded (room_right h (length vs) m) (Ok tt) SpaceWrong u p in
          let a = and_parts (eqb (length vs) h.records) _ g.0 in
          let c : length vs ≡ h.records = eqb-true _ _ a.0 in
          let one : eqb len (12 * h.records) ≡ true = eq-eqb _ _ (l ∙ ap (λ y. 12 * y) c) in
          let both : fits h len m ≡ true = ap (λ t. t && leb m h.jobs) one ∙ a.1 in
          let values : List R = blocks_played k.form bs 20 (20 + 8 * h.jobs + 12 * h.records) (stated_values k.form bs (20 + 8 * h.jobs) 12 h.records) m in
          ap (λ t. cond t (Ok (values_bytes k.form values)) (Err SpaceWrong)) both
          ∙ ap Ok (sym (w ∙ ap (values_bytes k.form) (q ∙ ap (λ t. cond t values vs) g.0)))
