use Rattle.std.proofs.Common.{◌≡◌, ◌*◌, min, length, take, drop, ap, ◌∙◌, arith}
use Rattle.std.proofs.lemmas.List.{take_all, length-drop, drop_min}
use Rattle.writer.proofs.journal.entries.Goals as goal

pub returns-clause-entries : goal.returns-clause-entries
returns-clause-entries g c =
    let lines = c.args.lines.now in
    let d = length-drop c.min-start.result lines in
    let start : c.min-start.result ≡ min (16 * c.args.head.place) (length lines) = c.min-start.ensures ∙ ap (λ n. min (16 * n) (length lines)) c.from.ensures in
    c.front-2.ensures
    ∙ ap (λ n. take n c.front.result.now) c.from-2.ensures
    ∙ ap (take c.args.head.count) (c.front.ensures ∙ ap (take 16) (take_all _ (drop c.min-start.result lines) (omega arith) ∙ ap (λ n. drop n lines) start ∙ drop_min (16 * c.args.head.place) lines))
