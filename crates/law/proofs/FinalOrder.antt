-- The journal stays in final order when a job is entered.
use Rattle.std.proofs.Common.{◌≡◌, Bool, true, false, cond, not, List, [], ◌∷◌, ◌++◌, filter, sym, refl, ap, ◌∙◌}
use mathlib.Core.List.Permᴰ
use mathlib.Core.List.{Permᴰ}
use Rattle.std.specs.List.{AllByRecursion}
use Rattle.std.proofs.lemmas.List.Elements.{filter-append}
use Rattle.std.proofs.lemmas.List.{append-nil}
use Rattle.std.proofs.lemmas.Bool.{and_left}
use Rattle.kinds.specs.Stamps.{Order, Ordered}
use Rattle.kinds.specs.Bounds.{same}
use Rattle.law.specs.Daybook.{AcceptedJob}
use Rattle.law.specs.Account.{NeverFalls, FinalOrder}
use Rattle.law.proofs.StampOrder.{Lt, Le, lt_le, le_trans, le_lt_trans, lt_le_trans, same_le}
use Rattle.law.proofs.Members.{in_all, all_in}
use Rattle.law.proofs.Views.{enter_job}

push_front : {A : Type 0} (xs : List A) (a : A) → Permᴰ (xs ++ (a ∷ [])) (a ∷ xs)
push_front [] a = Permᴰ.refl (a ∷ [])
push_front (x ∷ xs) a = Permᴰ.trans (Permᴰ.cons refl (push_front xs a)) (Permᴰ.swap refl refl)

none_kept : {A : Type 0} (q : A → Bool) (xs : List A) → AllByRecursion (λ x. q x ≡ false) xs → filter q xs ≡ []
none_kept q [] h = refl
none_kept q (x ∷ xs) h = ap (λ b. cond b (x ∷ filter q xs) (filter q xs)) h.0 ∙ none_kept q xs h.1

module _ {S R : Type 0} (o : Order S) (laws : Ordered o) (d : AcceptedJob S R) where
  enter_same : (js : List (AcceptedJob S R)) → Permᴰ (d ∷ js) (enter_job o d js)
  enter_same [] = Permᴰ.refl (d ∷ [])
  enter_same (e ∷ es) = by (o.before d.stamp e.stamp) (enter_same es)
    where
      by : (t : Bool) → Permᴰ (d ∷ es) (enter_job o d es) → Permᴰ (d ∷ e ∷ es) (cond t (d ∷ e ∷ es) (e ∷ enter_job o d es))
      by true h = Permᴰ.refl (d ∷ e ∷ es)
      by false h = Permᴰ.trans (Permᴰ.swap refl refl) (Permᴰ.cons refl h)

  enter_all : (P : AcceptedJob S R → Type 0) (js : List (AcceptedJob S R)) → P d → AllByRecursion P js → AllByRecursion P (enter_job o d js)
  enter_all P [] p h = (p, tt)
  enter_all P (e ∷ es) p h = by (o.before d.stamp e.stamp) (enter_all P es p h.1)
    where
      by : (t : Bool) → AllByRecursion P (enter_job o d es) → AllByRecursion P (cond t (d ∷ e ∷ es) (e ∷ enter_job o d es))
      by true k = (p, h)
      by false k = (h.0, k)

  enter_rising : (js : List (AcceptedJob S R)) → NeverFalls o js → NeverFalls o (enter_job o d js)
  enter_rising [] h = (tt, tt)
  enter_rising (e ∷ es) h = by (o.before d.stamp e.stamp) refl (enter_rising es h.1)
    where
      by : (t : Bool) → o.before d.stamp e.stamp ≡ t → NeverFalls o (enter_job o d es) → NeverFalls o (cond t (d ∷ e ∷ es) (e ∷ enter_job o d es))
      by true l k =
          ((lt_le o laws _ _ l, in_all _ es (λ a m. le_trans o laws _ _ _ (lt_le o laws _ _ l) (all_in (λ (a : AcceptedJob S R). Le o e.stamp a.stamp) m h.0))), h)
      by false l k = (enter_all (λ (a : AcceptedJob S R). Le o e.stamp a.stamp) es l h.0, k)

  -- among the jobs of one stamp the new one is the last
  module _ (s : S) where
    abbrev of_stamp : AcceptedJob S R → Bool
    of_stamp a = same o s a.stamp

    past_d : (e : AcceptedJob S R) → of_stamp d ≡ true → Lt o d.stamp e.stamp → of_stamp e ≡ false
    past_d e p l =
        let k : o.before s e.stamp ≡ true = le_lt_trans o laws _ _ _ (same_le o laws s d.stamp p).0 l in
        and_left (not (o.before s e.stamp)) (not (o.before e.stamp s)) (ap not k)

    kept_enter : (js : List (AcceptedJob S R)) → NeverFalls o js → filter of_stamp (enter_job o d js) ≡ filter of_stamp js ++ filter of_stamp (d ∷ [])
    kept_enter [] h = refl
    kept_enter (e ∷ es) h = by (o.before d.stamp e.stamp) refl (kept_enter es h.1)
      where
        ahead : (t : Bool) → of_stamp d ≡ t → Lt o d.stamp e.stamp → cond t (d ∷ filter of_stamp (e ∷ es)) (filter of_stamp (e ∷ es)) ≡ filter of_stamp (e ∷ es) ++ cond t (d ∷ []) []
        ahead true p l =
            let z = none_kept of_stamp (e ∷ es) (past_d e p l, in_all _ es (λ a m. past_d a p (lt_le_trans o laws _ _ _ l (all_in (λ (a : AcceptedJob S R). Le o e.stamp a.stamp) m h.0)))) in
            ap (λ ys. d ∷ ys) z ∙ sym (ap (λ ys. ys ++ (d ∷ [])) z)
        ahead false p l = sym (append-nil _)

        behind : (t : Bool) → filter of_stamp (enter_job o d es) ≡ filter of_stamp es ++ filter of_stamp (d ∷ []) → cond t (e ∷ filter of_stamp (enter_job o d es)) (filter of_stamp (enter_job o d es)) ≡ cond t (e ∷ filter of_stamp es) (filter of_stamp es) ++ filter of_stamp (d ∷ [])
        behind true k = ap (λ ys. e ∷ ys) k
        behind false k = k

        by : (t : Bool) → o.before d.stamp e.stamp ≡ t → filter of_stamp (enter_job o d es) ≡ filter of_stamp es ++ filter of_stamp (d ∷ []) → filter of_stamp (cond t (d ∷ e ∷ es) (e ∷ enter_job o d es)) ≡ filter of_stamp (e ∷ es) ++ filter of_stamp (d ∷ [])
        by true l k = ahead (of_stamp d) refl l
        by false l k = behind (of_stamp e) k

  pub final_enter : (accepted journal : List (AcceptedJob S R)) → FinalOrder o accepted journal → FinalOrder o (accepted ++ (d ∷ [])) (enter_job o d journal)
  final_enter accepted journal f =
      record {
        serial = record {
          same_jobs = Permᴰ.trans (push_front accepted d) (Permᴰ.trans (Permᴰ.cons refl f.serial.same_jobs) (enter_same journal));
          never_falls = enter_rising journal f.serial.never_falls;
        };
        in_turn = λ s. kept_enter s journal f.serial.never_falls ∙ ap (λ ys. ys ++ filter (of_stamp s) (d ∷ [])) (f.in_turn s) ∙ sym (filter-append (of_stamp s) accepted (d ∷ []));
      }
