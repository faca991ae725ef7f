use Rattle.std.proofs.Common.{vec_items, refl, ap, ◌∙◌, arith}
use Rattle.schedule_text.specs.Words.{texts}
use Rattle.schedule_text.proofs.WordLaws.{at_found, word_ends, no_word_ends, word_goes_on, last_word, no_last_word}
use Rattle.schedule_text.proofs.words.read_words.Goals as goal
use Rattle.schedule_text.proofs.words.read_words.Goals.{then-c-eq32, then-start-i+in_ok-push, else-start-i, else-c-eq32}

pub loop-i-preserved : goal.loop-i-preserved
loop-i-preserved c =
    let line = c.args.line.now in
    let i = c.loop-i.i in
    let start = c.loop-i.start in
    let before = vec_items c.loop-i.words in
    elim c.if-c-eq32.branch [
      | then-c-eq32 w ↦ elim w.if-start-i.branch [
        | then-start-i+in_ok-push w' ↦
            let items = ap vec_items (w.words-is ∙ w'.words-is) ∙ w'.in_ok-push.ensures.items in
            (at_found line _ _ _ _ _ items w.start-is ∙ word_ends before _ line start i c.loop-i-test.true w.if-c-eq32.true w'.if-start-i.true refl ∙ c.loop-i.invariant.0, omega (arith, w.start-is))
        | else-start-i w' ↦
            let items = ap vec_items (w.words-is ∙ w'.words-is) in
            (at_found line _ _ _ _ _ items w.start-is ∙ no_word_ends before line start i c.loop-i-test.true w.if-c-eq32.true (omega (arith, w'.if-start-i.false)) ∙ c.loop-i.invariant.0, omega (arith, w.start-is))
      ]
      | else-c-eq32 w ↦
          (at_found line _ _ _ _ _ (ap vec_items w.words-is) w.start-is ∙ word_goes_on before line start i c.loop-i-test.true w.if-c-eq32.false (omega arith) ∙ c.loop-i.invariant.0, omega (arith, w.start-is))
    ]

pub returns-in_ok-push-2 : goal.returns-in_ok-push-2
returns-in_ok-push-2 c =
    ap texts c.in_ok-push-2.ensures.items
    ∙ last_word (vec_items c.loop-i.words) _ c.args.line.now c.loop-i.start c.loop-i.i (omega arith) (omega (arith, c.if-start-line.true)) refl
    ∙ c.loop-i.invariant.0

pub returns-else-start-line : goal.returns-else-start-line
returns-else-start-line c =
    no_last_word (vec_items c.loop-i.words) c.args.line.now c.loop-i.start c.loop-i.i (omega arith) (omega (arith, c.if-start-line.false))
    ∙ c.loop-i.invariant.0
