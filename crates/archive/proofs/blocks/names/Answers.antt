use Rattle.std.proofs.Common.{◌≡◌, ℕ, ◌+◌, ◌*◌, ◌≤◌, ◌&&◌, List, map, length, take, drop, is_some, sym, ap, ◌∙◌, arith}
use Rattle.std.specs.List.{list_all}
use Rattle.std.specs.Simd.{first_chunks}
use Rattle.kinds.specs.Bytes.{number2}
use Rattle.archive.specs.Names.{numbers, names_right}
use Rattle.archive.specs.Blocks.{stamp_at, all_noted}
use Rattle.archive.proofs.RowLaws.{numbers_rows, noted_rows}
use Rattle.archive.proofs.blocks.names.Goals as goal

-- the numbers of rows, as they were gathered
gathered : (bs xs : List ℕ) (rows : List (List ℕ)) (n m at : ℕ) → 2 ≤ n → rows ≡ first_chunks n m (drop at bs) → length rows ≡ m → take (length rows) xs ≡ map number2 rows → take m xs ≡ numbers bs at n m
gathered bs xs rows n m at h r l e = ap (λ k. take k xs) (sym l) ∙ e ∙ ap (map number2) r ∙ numbers_rows n h m at bs

fits : (bs xs ys : List ℕ) (n at r p : ℕ) (rows more : List (List ℕ)) → rows ≡ first_chunks 22 r (drop (at + 16) bs) → length rows ≡ r → take (length rows) xs ≡ map number2 rows
    → more ≡ first_chunks 14 p (drop (at + 16 + 22 * r) bs) → length more ≡ p → take (length more) ys ≡ map number2 more
    → names_right n (take r xs) (take p ys) ≡ names_right n (numbers bs (at + 16) 22 r) (numbers bs (at + 16 + 22 * r) 14 p)
fits bs xs ys n at r p rows more a b c d e f =
    ap (λ zs. names_right n zs (take p ys)) (gathered bs xs rows 22 r (at + 16) (omega arith) a b c)
    ∙ ap (names_right n (numbers bs (at + 16) 22 r)) (gathered bs ys more 14 p (at + 16 + 22 * r) (omega arith) d e f)

pub returns-then-names_fit : goal.returns-then-names_fit
returns-then-names_fit g c =
    let o = g.S.Stamp.kind.order in
    let bs = c.args.bytes.now in
    let f = c.names_fit.ensures ∙ fits bs c.gather.result c.gather-2.result c.args.n c.args.at c.args.h.looks c.args.h.puts c.rows-looks.result.now c.rows-puts.result.now
    c.rows-looks.ensures.rows c.rows-looks.ensures.many c.gather.ensures c.rows-puts.ensures.rows c.rows-puts.ensures.many c.gather-2.ensures in
    c.are_noted.ensures ∙ ap (list_all (λ row. is_some (stamp_at o row 2))) c.rows-looks.ensures.rows ∙ noted_rows o c.args.h.looks (c.args.at + 16) bs
    ∙ sym (ap (λ b. b && all_noted o bs (c.args.at + 16) c.args.h.looks) (sym f ∙ c.if-names_fit.true))

pub returns-else-names_fit : goal.returns-else-names_fit
returns-else-names_fit g c =
    let o = g.S.Stamp.kind.order in
    let bs = c.args.bytes.now in
    let f = c.names_fit.ensures ∙ fits bs c.gather.result c.gather-2.result c.args.n c.args.at c.args.h.looks c.args.h.puts c.rows-looks.result.now c.rows-puts.result.now
    c.rows-looks.ensures.rows c.rows-looks.ensures.many c.gather.ensures c.rows-puts.ensures.rows c.rows-puts.ensures.many c.gather-2.ensures in
    c.if-names_fit.false ∙ sym (ap (λ b. b && all_noted o bs (c.args.at + 16) c.args.h.looks) (sym f ∙ c.if-names_fit.false))
