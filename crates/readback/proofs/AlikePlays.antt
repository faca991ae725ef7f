-- Plays of jobs that count alike, from opening values that count alike, leave values that count alike.
use Rattle.std.proofs.Common.{◌≡◌, ℕ, zero, suc, Bool, true, false, cond, eqb, List, [], ◌∷◌, length, Some, None, Option, sym, refl, ap, ◌∙◌}
use Rattle.std.specs.Option.{option_map}
use Rattle.std.specs.List.{slice_get}
use Rattle.kinds.specs.Forms.{Form, Alike}
use Rattle.kinds.specs.Stamps.{Order}
use Rattle.law.specs.Daybook.{Put, AcceptedJob}
use Rattle.law.specs.Account.{StandingAt, put_of, at_opening, after_job, played}
use Rattle.readback.specs.ReadsBack.{Each, AlikePut, AlikeJob}
use Rattle.readback.specs.PlaysBack.{value_at}
use Rattle.readback.proofs.PutsOver.{over, value_under}
use Rattle.readback.proofs.PlaysStated.{opening_shows}

pub each_length : {A B : Type 0} (P : A → B → Type 0) (xs : List A) (ys : List B) → Each P xs ys → length xs ≡ length ys
each_length P [] [] h = refl
each_length P [] (y ∷ ys) h = absurd h
each_length P (x ∷ xs) [] h = absurd h
each_length P (x ∷ xs) (y ∷ ys) h = ap suc (each_length P xs ys h.1)

module _ {R : Type 0} (f : Form R) where
  written_over : (p w : Option R) → option_map f.written (over p w) ≡ over (option_map f.written p) (option_map f.written w)
  written_over None w = refl
  written_over (Some v) w = refl

  put_step : (x n : ℕ) (v w : R) (p q : Option R) → Alike f v w → option_map f.written p ≡ option_map f.written q
      → option_map f.written (cond (eqb x n) (Some v) p) ≡ option_map f.written (cond (eqb x n) (Some w) q)
  put_step x n v w p q a h = by (eqb x n)
    where
      by : (t : Bool) → option_map f.written (cond t (Some v) p) ≡ option_map f.written (cond t (Some w) q)
      by true = ap Some a
      by false = h

  puts_alike : (x : ℕ) (ps qs : List (Put R)) → Each (AlikePut f) ps qs → option_map f.written (put_of x ps) ≡ option_map f.written (put_of x qs)
  puts_alike x [] [] h = refl
  puts_alike x [] (q ∷ qs) h = absurd h
  puts_alike x (p ∷ ps) [] h = absurd h
  puts_alike x (p ∷ ps) (q ∷ qs) h =
      ap (λ n. option_map f.written (cond (eqb x n) (Some p.value) (put_of x ps))) h.0.number
      ∙ put_step x q.number p.value q.value (put_of x ps) (put_of x qs) h.0.value (puts_alike x ps qs h.1)

  values_alike : (x : ℕ) (vs ws : List R) → Each (Alike f) vs ws → option_map f.written (slice_get vs x) ≡ option_map f.written (slice_get ws x)
  values_alike x [] [] h = refl
  values_alike x [] (w ∷ ws) h = absurd h
  values_alike x (v ∷ vs) [] h = absurd h
  values_alike zero (v ∷ vs) (w ∷ ws) h = ap Some h.0
  values_alike (suc x) (v ∷ vs) (w ∷ ws) h = values_alike x vs ws h.1

module _ {S R : Type 0} (o : Order S) (f : Form R) where
  -- standings whose values count alike
  abbrev pub AlikeStanding : StandingAt S R → StandingAt S R → Type 0
  AlikeStanding s t = (x : ℕ) → option_map f.written (value_at s x) ≡ option_map f.written (value_at t x)

  pub opening_alike : (vs ws : List R) → Each (Alike f) vs ws → AlikeStanding (at_opening o vs) (at_opening o ws)
  opening_alike vs ws h x =
      ap (option_map f.written) (sym (opening_shows o vs x)) ∙ values_alike f x vs ws h ∙ ap (option_map f.written) (opening_shows o ws x)

  written_after : (a : AcceptedJob S R) (s : StandingAt S R) (x : ℕ) → option_map f.written (value_at (after_job a s) x) ≡ over (option_map f.written (put_of x a.puts)) (option_map f.written (value_at s x))
  written_after a s x = ap (option_map f.written) (value_under a.stamp (put_of x a.puts) (s x)) ∙ written_over f (put_of x a.puts) (value_at s x)

  job_alike : (a b : AcceptedJob S R) (s t : StandingAt S R) → AlikeJob o f a b → AlikeStanding s t → AlikeStanding (after_job a s) (after_job b t)
  job_alike a b s t h k x =
      written_after a s x
      ∙ ap (λ p. over p (option_map f.written (value_at s x))) (puts_alike f x a.puts b.puts h.puts)
      ∙ ap (over (option_map f.written (put_of x b.puts))) (k x)
      ∙ sym (written_after b t x)

  pub plays_alike : (xs ys : List (AcceptedJob S R)) → Each (AlikeJob o f) xs ys → (s t : StandingAt S R) → AlikeStanding s t → AlikeStanding (played s xs) (played t ys)
  plays_alike [] [] h s t k x = k x
  plays_alike [] (b ∷ bs) h s t k x = absurd h
  plays_alike (a ∷ more) [] h s t k x = absurd h
  plays_alike (a ∷ more) (b ∷ bs) h s t k x = plays_alike more bs h.1 (after_job a s) (after_job b t) (job_alike a b s t h.0 k) x
