-- What words are read as: a command, or why they are none.
use Rattle.std.specs.Prelude.{ℕ, Bool, cond, not, ◌&&◌, ◌==◌, List, [], ◌∷◌, length, Option, Some, None, Result, Ok, Err, codes}
use Rattle.std.specs.Char.{is_ascii_alphanumeric}
use Rattle.std.specs.List.{list_all}
use Rattle.std.specs.Option.{ok_or}
use Rattle.std.specs.Str.{bytes_eq}
use Rattle.notation.specs.Text.{Notes}
use Rattle.schedule_calls.specs.declared.reason.Form.{Form}
use Rattle.schedule_calls.specs.declared.reason.Form.TheVariants.{Found, Publish, Open, Look, Put, Tune, Submit, Decide, Settle, Waive, LetGo, Row, Job, Journal, Image, Archive, Inspect, Play}
use Rattle.schedule_calls.specs.declared.reason.Reason.{Reason}
use Rattle.schedule_calls.specs.declared.reason.Reason.TheVariants.{Command as NoCommand, Words as WrongWords, Name as NoName, Value as NoValue}
use Rattle.schedule_calls.specs.Numbers.{Numeral, index_of, numeral_of}
use Rattle.schedule_calls.specs.Readings.{◌>>=◌}
use Rattle.schedule_calls.specs.Told.{ToldCall, Told, publishes, opens, looks, puts, tunes, submits, decides, settles, waives, a_row, a_job, the_journal, an_image, the_bytes, inspects, plays, makes, lets_go, shows, keeps}

-- the command that a first word names
abbrev pub form_named : List ℕ → Option Form
form_named w =
    cond (bytes_eq w (codes "publish")) (Some Publish)
    (cond (bytes_eq w (codes "open")) (Some Open)
    (cond (bytes_eq w (codes "look")) (Some Look)
    (cond (bytes_eq w (codes "put")) (Some Put)
    (cond (bytes_eq w (codes "tune")) (Some Tune)
    (cond (bytes_eq w (codes "submit")) (Some Submit)
    (cond (bytes_eq w (codes "decide")) (Some Decide)
    (cond (bytes_eq w (codes "settle")) (Some Settle)
    (cond (bytes_eq w (codes "waive")) (Some Waive)
    (cond (bytes_eq w (codes "drop")) (Some LetGo)
    (cond (bytes_eq w (codes "row")) (Some Row)
    (cond (bytes_eq w (codes "job")) (Some Job)
    (cond (bytes_eq w (codes "journal")) (Some Journal)
    (cond (bytes_eq w (codes "image")) (Some Image)
    (cond (bytes_eq w (codes "archive")) (Some Archive)
    (cond (bytes_eq w (codes "inspect")) (Some Inspect)
    (cond (bytes_eq w (codes "play")) (Some Play) None))))))))))))))))

-- one or more letters and digits
abbrev pub is_name : List ℕ → Bool
is_name w = not (length w == 0) && list_all is_ascii_alphanumeric w

abbrev pub name_of : List ℕ → Result (List ℕ) Reason
name_of w = cond (is_name w) (Ok w) (Err NoName)

-- a record's value
abbrev pub value_of : {R : Type 0} → Notes R → List ℕ → Result R Reason
value_of n w = ok_or (n.parsed w) NoValue

-- the words after the first: none, a name, a number, or a name and the number of an image
abbrev pub alone : Form → List (List ℕ) → Result (Unit {0}) Reason
alone form [] = Ok tt
alone form (w ∷ ws) = Err (WrongWords form)

abbrev pub one_word : Form → List (List ℕ) → Result (List ℕ) Reason
one_word form [] = Err (WrongWords form)
one_word form (w ∷ []) = Ok w
one_word form (w ∷ v ∷ ws) = Err (WrongWords form)

abbrev pub one_name : Form → List (List ℕ) → Result (List ℕ) Reason
one_name form ws = one_word form ws >>= name_of

abbrev pub one_index : Form → List (List ℕ) → Result ℕ Reason
one_index form ws = one_word form ws >>= index_of

abbrev pub one_numeral : Form → List (List ℕ) → Result Numeral Reason
one_numeral form ws = one_word form ws >>= numeral_of

pub record Named : Type 0 where
  pub name : List ℕ
  pub image : ℕ

abbrev pub named : List ℕ → List ℕ → Result Named Reason
named name image = do
  n ← name_of name
  i ← index_of image
  Ok (record { name = n; image = i })

abbrev pub name_and_image : Form → List (List ℕ) → Result Named Reason
name_and_image form [] = Err (WrongWords form)
name_and_image form (name ∷ []) = Err (WrongWords form)
name_and_image form (name ∷ image ∷ []) = named name image
name_and_image form (name ∷ image ∷ w ∷ ws) = Err (WrongWords form)

-- the image of a number, after the word 'at'
abbrev pub image_after : Form → List ℕ → List ℕ → Result (Option ℕ) Reason
image_after form at image = cond (bytes_eq at (codes "at")) (index_of image >>= (λ i. Ok (Some i))) (Err (WrongWords form))

-- the image that is named after 'at', if any words follow
abbrev pub at_of : Form → List (List ℕ) → Result (Option ℕ) Reason
at_of form [] = Ok None
at_of form (w ∷ []) = Err (WrongWords form)
at_of form (w ∷ image ∷ []) = image_after form w image
at_of form (w ∷ image ∷ v ∷ vs) = Err (WrongWords form)

-- a look, and a put, at the image that is named or at the job's own
abbrev pub look_of : {R : Type 0} → List (List ℕ) → Result (ToldCall R) Reason
look_of [] = Err (WrongWords Look)
look_of (name ∷ []) = Err (WrongWords Look)
look_of (name ∷ record' ∷ ws) = do
  at ← at_of Look ws
  n ← name_of name
  r ← numeral_of record'
  Ok (looks n r at)

abbrev pub put_of : {R : Type 0} → Notes R → List (List ℕ) → Result (ToldCall R) Reason
put_of notes [] = Err (WrongWords Put)
put_of notes (name ∷ []) = Err (WrongWords Put)
put_of notes (name ∷ record' ∷ []) = Err (WrongWords Put)
put_of notes (name ∷ record' ∷ value ∷ ws) = do
  at ← at_of Put ws
  n ← name_of name
  r ← numeral_of record'
  v ← value_of notes value
  Ok (puts n r v at)

-- a command by its form, from the words after the first
abbrev pub formed : {R : Type 0} → Notes R → Form → List (List ℕ) → Result (Told R) Reason
formed notes Found ws = Err NoCommand
formed notes Publish ws = alone Publish ws >>= (λ _. Ok (makes publishes))
formed notes Open ws = name_and_image Open ws >>= (λ w. Ok (makes (opens w.name w.image)))
formed notes Look ws = look_of ws >>= (λ c. Ok (makes c))
formed notes Put ws = put_of notes ws >>= (λ c. Ok (makes c))
formed notes Tune ws = name_and_image Tune ws >>= (λ w. Ok (makes (tunes w.name w.image)))
formed notes Submit ws = one_name Submit ws >>= (λ n. Ok (makes (submits n)))
formed notes Decide ws = alone Decide ws >>= (λ _. Ok (makes decides))
formed notes Settle ws = name_and_image Settle ws >>= (λ w. Ok (makes (settles w.name w.image)))
formed notes Waive ws = one_name Waive ws >>= (λ n. Ok (makes (waives n)))
formed notes LetGo ws = one_name LetGo ws >>= (λ n. Ok (lets_go n))
formed notes Row ws = one_index Row ws >>= (λ r. Ok (shows (a_row r)))
formed notes Job ws = one_name Job ws >>= (λ n. Ok (shows (a_job n)))
formed notes Journal ws = alone Journal ws >>= (λ _. Ok (shows the_journal))
formed notes Image ws = one_index Image ws >>= (λ i. Ok (shows (an_image i)))
formed notes Archive ws = alone Archive ws >>= (λ _. Ok (keeps the_bytes))
formed notes Inspect ws = alone Inspect ws >>= (λ _. Ok (keeps inspects))
formed notes Play ws = one_numeral Play ws >>= (λ m. Ok (keeps (plays m)))

-- the command that the first word names, formed of the others
abbrev pub command_of : {R : Type 0} → Notes R → List (List ℕ) → Result (Told R) Reason
command_of notes [] = Err NoCommand
command_of notes (first ∷ ws) = ok_or (form_named first) NoCommand >>= (λ form. formed notes form ws)
