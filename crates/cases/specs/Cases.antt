-- The worked cases: picks, written forms, runs of whole stamps on a register of two records, and the archive of a small register.
use Rattle.std.specs.Prelude.{◌≡◌, ℕ, ◌+◌, ◌*◌, false, List, [], ◌∷◌, ◌++◌, replicate, length, Some, None, Ok, Option}
use Rattle.std.specs.Option.{option_map}
use Rattle.kinds.specs.Whole.{whole, whole_kind}
use Rattle.kinds.specs.Volume.{volume_page, volume_kind}
use Rattle.kinds.specs.Card.{card_kind}
use Rattle.kinds.specs.Item.{item_kind}
use Rattle.kinds.specs.declared.whole.Whole.{Whole}
use Rattle.kinds.specs.declared.card.Card.{Card}
use Rattle.kinds.specs.declared.card.Unit.{Unit as DrawnIn}
use Rattle.kinds.specs.declared.card.Unit.TheVariants.{Millimetre, Centimetre, Metre, Inch}
use Rattle.kinds.specs.declared.item.Item.TheVariants.{Solid, SubAssembly}
use Rattle.model.specs.declared.entry.Entry.{Entry}
use Rattle.model.specs.declared.verdict.Outcome.{Outcome}
use Rattle.model.specs.declared.verdict.Verdict.TheVariants.{Accepted, Overtaken, Gone, NoPlace}
use Rattle.model.specs.declared.refusal.Refusal.TheVariants.{NoRoom}
use Rattle.station.specs.declared.job.Standing.TheVariants.{Live}
use Rattle.station.specs.Station.{Image, Station}
use Rattle.registrar.specs.Registry.{Registry}
use Rattle.law.specs.Daybook.{AcceptedJob}
use Rattle.law.specs.Runs.{Call, opens, looks, puts, tunes, submits, decides, publishes, Answer, refused, done, shown, stands, ticket, outcome, image, Run, next, run, step, start}
use Rattle.archive.specs.Lengths.{listed_length}
use Rattle.archive.specs.Journal.{archive_bytes}
use Rattle.archive.specs.Rule.{inspected}

-- tables with some content, for a register of two records and a journal of eight places
abbrev zero_stamp : Whole
zero_stamp = whole 0

abbrev blank_sheet : List (Entry Whole ℕ)
blank_sheet = replicate 16 (record { number = 0; noted = zero_stamp; saw = 0; wrote = 0; seen = false; put = false; opened = false })

abbrev no_outcomes : List (Outcome Whole)
no_outcomes = replicate 32 (record { ticket = 0; verdict = Gone })

abbrev tables : Registry Whole ℕ
tables =
    record {
      own = record { records = 0; cycle = 0; tickets = 0; oldest = 0; waiting = 0; outcomes = 0; jobs = 0 };
      rows = replicate 2 (record { value = 0; read = zero_stamp; count = 0; one = zero_stamp; two = zero_stamp; three = zero_stamp; four = zero_stamp });
      firsts = replicate 2 None;
      opening = replicate 2 0;
      queue = replicate 16 (record { ticket = 0; lower = zero_stamp; upper = None; count = 0 });
      queued = replicate 256 (record { number = 0; noted = zero_stamp; saw = 0; wrote = 0; seen = false; put = false; opened = false });
      outcomes = no_outcomes;
      heads = replicate 8 (record { stamp = zero_stamp; ticket = 0; place = 0; count = 0 });
      lines = replicate 128 (record { number = 0; noted = zero_stamp; saw = 0; wrote = 0; seen = false; put = false; opened = false });
    }

abbrev an_image : Image Whole ℕ
an_image = record { records = 0; number = 0; rows = replicate 2 (record { value = 0; write = zero_stamp; read = zero_stamp; first = None }); outcomes = no_outcomes; count = 0 }

-- the answers of a run, in turn
abbrev answers : Run Whole ℕ → List (Call Whole ℕ) → List (Answer Whole ℕ)
answers r [] = []
answers r (c ∷ cs) = (step whole_kind r.desk c).answer ∷ answers (next whole_kind r c) cs

abbrev answered : List (Call Whole ℕ) → List (Answer Whole ℕ)
answered calls = answers (start whole_kind (10 ∷ 20 ∷ []) tables) calls

abbrev accepted : ℕ → ℕ → Answer Whole ℕ
accepted n s = outcome (record { ticket = n; verdict = Accepted (whole s) })

abbrev after_calls : List (Call Whole ℕ) → Run Whole ℕ
after_calls calls = run whole_kind calls (start whole_kind (10 ∷ 20 ∷ []) tables)

abbrev upper_of : ℕ → Run Whole ℕ → Option (Option Whole)
upper_of j r = option_map (λ (t : Station Whole ℕ). t.job.upper) (r.desk.jobs j)

abbrev bounded_calls : List (Call Whole ℕ)
bounded_calls =
    publishes an_image ∷ opens 0 1 blank_sheet ∷ looks 0 1 0 ∷ puts 0 1 0 7 ∷ opens 1 1 blank_sheet ∷ looks 1 1 0 ∷ submits 0 ∷ decides ∷ publishes an_image ∷ tunes 1 2 ∷ []

abbrev first_look : List (Call Whole ℕ)
first_look = publishes an_image ∷ opens 0 1 blank_sheet ∷ looks 0 1 0 ∷ []

-- a job opened at image n puts 0, is decided, and the next image is published
abbrev later_put : ℕ → List (Call Whole ℕ)
later_put n = opens 1 n blank_sheet ∷ puts 1 n 0 5 ∷ submits 1 ∷ decides ∷ publishes an_image ∷ []

abbrev decided_last : List (Call Whole ℕ)
decided_last = submits 0 ∷ decides ∷ []

-- a register of two cards, and one job that saw the first and put a new one there
abbrev card : ℕ → DrawnIn → ℕ → Card
card revision unit mass = record { revision = revision; unit = unit; mass = mass }

abbrev two_cards : List Card
two_cards = card 1 Millimetre 10 ∷ card 2 Centimetre 20 ∷ []

abbrev one_job : AcceptedJob Whole Card
one_job =
    record {
      stamp = whole 65536;
      ticket = 1;
      looks = record { number = 0; saw = record { value = card 1 Millimetre 10; stamp = zero_stamp } } ∷ [];
      puts = record { number = 0; value = card 7 Millimetre 11 } ∷ [];
    }

abbrev small_archive : List ℕ
small_archive = archive_bytes whole_kind.order card_kind two_cards (one_job ∷ [])

pub record WorkedCases : Type 0 where
  pub between : whole_kind.pick (whole 5) (Some (whole 7)) ≡ Some (whole 6)
  pub no_room : whole_kind.pick (whole 5) (Some (whole 6)) ≡ None
  pub last : whole_kind.pick (whole 4611686018427387902) None ≡ Some (whole 4611686018427387903)
  pub none_after_last : whole_kind.pick (whole 4611686018427387903) None ≡ None
  pub next_volume : volume_kind.pick (volume_page 3 9999) (Some (volume_page 4 1)) ≡ Some (volume_page 4 0)
  pub no_page : volume_kind.pick (volume_page 3 9999) (Some (volume_page 4 0)) ≡ None
  pub new_volume : volume_kind.pick (volume_page 3 17) None ≡ Some (volume_page 4 0)
  pub rounded_down : whole_kind.pick (whole 5) (Some (whole 8)) ≡ Some (whole 6)
  pub onward : whole_kind.pick (whole 0) None ≡ Some (whole 65536)
  pub next_page : volume_kind.pick (volume_page 9999 17) None ≡ Some (volume_page 9999 18)
  pub none_after_last_page : volume_kind.pick (volume_page 9999 9999) None ≡ None
  -- the kinds' numbers and some written forms
  pub whole_number : whole_kind.order.number ≡ 1
  pub volume_number : volume_kind.order.number ≡ 2
  pub card_number : card_kind.number ≡ 1
  pub item_number : item_kind.number ≡ 2
  pub whole_form : whole_kind.order.form.written (whole 72623859790382856) ≡ 1 ∷ 2 ∷ 3 ∷ 4 ∷ 5 ∷ 6 ∷ 7 ∷ 8 ∷ []
  pub volume_form : volume_kind.order.form.written (volume_page 258 772) ≡ 0 ∷ 0 ∷ 1 ∷ 2 ∷ 0 ∷ 0 ∷ 3 ∷ 4 ∷ []
  pub card_form : card_kind.form.written (record { revision = 16909060; unit = Metre; mass = 84281096 }) ≡ 1 ∷ 2 ∷ 3 ∷ 4 ∷ 2 ∷ 0 ∷ 0 ∷ 0 ∷ 5 ∷ 6 ∷ 7 ∷ 8 ∷ []
  pub inch_form : card_kind.form.written (record { revision = 0; unit = Inch; mass = 1 }) ≡ 0 ∷ 0 ∷ 0 ∷ 0 ∷ 3 ∷ 0 ∷ 0 ∷ 0 ∷ 0 ∷ 0 ∷ 0 ∷ 1 ∷ []
  pub solid_form : item_kind.form.written (Solid 16909060) ≡ 1 ∷ 0 ∷ 0 ∷ 0 ∷ 1 ∷ 2 ∷ 3 ∷ 4 ∷ 0 ∷ 0 ∷ 0 ∷ 0 ∷ []
  pub sub_assembly_form : item_kind.form.written (SubAssembly 258 772) ≡ 2 ∷ 0 ∷ 0 ∷ 0 ∷ 1 ∷ 2 ∷ 3 ∷ 4 ∷ 0 ∷ 0 ∷ 0 ∷ 0 ∷ []
  pub count_zero_form : item_kind.form.written (SubAssembly 258 0) ≡ 2 ∷ 0 ∷ 0 ∷ 0 ∷ 1 ∷ 2 ∷ 0 ∷ 1 ∷ 0 ∷ 0 ∷ 0 ∷ 0 ∷ []
  -- A (job 0) looks at 0 and puts 0; B (job 1) looks at 0. A is decided: 65,536. B looks at 1 and is decided: 32,768, before A.
  pub stands_early :
      answered (publishes an_image ∷ opens 0 1 blank_sheet ∷ looks 0 1 0 ∷ puts 0 1 0 7 ∷ opens 1 1 blank_sheet ∷ looks 1 1 0
      ∷ submits 0 ∷ decides ∷ looks 1 1 1 ∷ submits 1 ∷ decides ∷ [])
      ≡ image 1 ∷ done ∷ shown 10 ∷ done ∷ done ∷ shown 10 ∷ ticket 1 ∷ accepted 1 65536 ∷ shown 20 ∷ ticket 2 ∷ accepted 2 32768 ∷ []
  -- Z (0) puts 1: 65,536. Image 2. W (1, image 1) has seen 1 and put 0. T (2, image 2) looks at both before W is decided.
  -- W: 32,768. T: no place.
  pub only_looks :
      answered (publishes an_image ∷ opens 0 1 blank_sheet ∷ puts 0 1 1 5 ∷ opens 1 1 blank_sheet ∷ looks 1 1 1 ∷ puts 1 1 0 6 ∷ submits 0 ∷ decides
      ∷ publishes an_image ∷ opens 2 2 blank_sheet ∷ looks 2 2 0 ∷ looks 2 2 1 ∷ submits 1 ∷ decides ∷ submits 2 ∷ decides ∷ [])
      ≡ image 1 ∷ done ∷ done ∷ done ∷ shown 20 ∷ done ∷ ticket 1 ∷ accepted 1 65536
      ∷ image 2 ∷ done ∷ shown 10 ∷ shown 5 ∷ ticket 2 ∷ accepted 2 32768 ∷ ticket 3 ∷ outcome (record { ticket = 3; verdict = NoPlace }) ∷ []
  -- R (0) sees 0: 65,536. V (1) puts 0: 131,072.
  pub behind_the_reader :
      answered (publishes an_image ∷ opens 0 1 blank_sheet ∷ looks 0 1 0 ∷ opens 1 1 blank_sheet ∷ puts 1 1 0 6 ∷ submits 0 ∷ decides ∷ submits 1 ∷ decides ∷ [])
      ≡ image 1 ∷ done ∷ shown 10 ∷ done ∷ done ∷ ticket 1 ∷ accepted 1 65536 ∷ ticket 2 ∷ accepted 2 131072 ∷ []
  -- Two jobs put 0: 65,536, then overtaken.
  pub second_put :
      answered (publishes an_image ∷ opens 0 1 blank_sheet ∷ puts 0 1 0 5 ∷ opens 1 1 blank_sheet ∷ puts 1 1 0 6 ∷ submits 0 ∷ submits 1 ∷ decides ∷ decides ∷ [])
      ≡ image 1 ∷ done ∷ done ∷ done ∷ done ∷ ticket 1 ∷ ticket 2 ∷ accepted 1 65536 ∷ outcome (record { ticket = 2; verdict = Overtaken }) ∷ []
  -- B of the first case tunes to image 2 after A: its upper bound is 65,536, and its put of 0 is refused.
  pub bounded_from_above :
      upper_of 1 (after_calls bounded_calls) ≡ Some (Some (whole 65536))
  pub put_refused :
      answered (bounded_calls ++ (puts 1 2 0 8 ∷ []))
      ≡ image 1 ∷ done ∷ shown 10 ∷ done ∷ done ∷ shown 10 ∷ ticket 1 ∷ accepted 1 65536 ∷ image 2 ∷ stands Live ∷ refused NoRoom ∷ []
  -- A job (0) saw 0; three later puts of 0, one per image; then it is decided: 32,768. After four: gone.
  pub three_later :
      answered (first_look ++ (later_put 1 ++ (later_put 2 ++ (later_put 3 ++ decided_last))))
      ≡ image 1 ∷ done ∷ shown 10 ∷ done ∷ done ∷ ticket 1 ∷ accepted 1 65536 ∷ image 2 ∷ done ∷ done ∷ ticket 2 ∷ accepted 2 131072
      ∷ image 3 ∷ done ∷ done ∷ ticket 3 ∷ accepted 3 196608 ∷ image 4 ∷ ticket 4 ∷ accepted 4 32768 ∷ []
  pub four_later :
      answered (first_look ++ (later_put 1 ++ (later_put 2 ++ (later_put 3 ++ (later_put 4 ++ decided_last)))))
      ≡ image 1 ∷ done ∷ shown 10 ∷ done ∷ done ∷ ticket 1 ∷ accepted 1 65536 ∷ image 2 ∷ done ∷ done ∷ ticket 2 ∷ accepted 2 131072
      ∷ image 3 ∷ done ∷ done ∷ ticket 3 ∷ accepted 3 196608 ∷ image 4 ∷ done ∷ done ∷ ticket 4 ∷ accepted 4 262144 ∷ image 5
      ∷ ticket 5 ∷ outcome (record { ticket = 5; verdict = Gone }) ∷ []
  -- The lengths of blocks in their table: no look and no put, two looks and one put, sixteen of each.
  pub length_of_none : listed_length (17 * 0 + 0) ≡ 16
  pub length_of_three : listed_length (17 * 2 + 1) ≡ 74
  pub length_of_most : listed_length (17 * 16 + 16) ≡ 592
  -- Two cards and one job with a look and a put: the pairs 28, 24 and 52, 52 in 104 bytes, which are sound.
  pub small_length : length small_archive ≡ 104
  pub small_bytes :
      small_archive
      ≡ 65 ∷ 83 ∷ 74 ∷ 49 ∷ 1 ∷ 1 ∷ 0 ∷ 2 ∷ 0 ∷ 0 ∷ 0 ∷ 1
      ∷ 0 ∷ 0 ∷ 0 ∷ 28 ∷ 0 ∷ 0 ∷ 0 ∷ 24
      ∷ 0 ∷ 0 ∷ 0 ∷ 52 ∷ 0 ∷ 0 ∷ 0 ∷ 52
      ∷ 0 ∷ 0 ∷ 0 ∷ 1 ∷ 0 ∷ 0 ∷ 0 ∷ 0 ∷ 0 ∷ 0 ∷ 0 ∷ 10
      ∷ 0 ∷ 0 ∷ 0 ∷ 2 ∷ 1 ∷ 0 ∷ 0 ∷ 0 ∷ 0 ∷ 0 ∷ 0 ∷ 20
      ∷ 0 ∷ 0 ∷ 0 ∷ 0 ∷ 0 ∷ 1 ∷ 0 ∷ 0 ∷ 0 ∷ 0 ∷ 0 ∷ 1 ∷ 1 ∷ 1 ∷ 0 ∷ 0
      ∷ 0 ∷ 0 ∷ 0 ∷ 0 ∷ 0 ∷ 0 ∷ 0 ∷ 0 ∷ 0 ∷ 0 ∷ 0 ∷ 0 ∷ 0 ∷ 1 ∷ 0 ∷ 0 ∷ 0 ∷ 0 ∷ 0 ∷ 0 ∷ 0 ∷ 10
      ∷ 0 ∷ 0 ∷ 0 ∷ 0 ∷ 0 ∷ 7 ∷ 0 ∷ 0 ∷ 0 ∷ 0 ∷ 0 ∷ 0 ∷ 0 ∷ 11 ∷ []
  pub small_sound : inspected whole_kind.order card_kind small_archive ≡ Ok 1
