-- A printed whole stamp parses back.
use Rattle.std.specs.Prelude.{◌≡◌, ◌^◌, ◌<◌, Some, decimal}
use Rattle.std.proofs.Common.{sym, ap, ◌∙◌, arith}
use Rattle.std.specs.Option.{option_map}
use Rattle.kinds.specs.Bytes.{be8, number8}
use Rattle.kinds.specs.Whole.{whole, counted, whole_written}
use Rattle.kinds.specs.declared.whole.Whole.{Whole}
use Rattle.kinds.specs.ByteLaws.{back8}
use Rattle.notation.specs.Text.{ParsesBack, PrintsAlike}
use Rattle.notation.specs.Whole.{whole_notes}
use Rattle.notation.specs.NumberLaws.{number_back}

again : (w : Whole) → counted (whole (counted w)) ≡ counted w
again w = omega arith

pub whole_back : ParsesBack whole_notes
whole_back w =
    ap (λ o. option_map whole_written (option_map whole o)) (number_back 4611686018427387903 (counted w) (omega arith) (omega arith))
    ∙ ap (λ n. Some (be8 n)) (again w)

fits : (w : Whole) → counted w < 2 ^ 64
fits w = omega arith

pub whole_alike : PrintsAlike whole_notes
whole_alike a b e = ap decimal (sym (back8 (counted a) (fits a)) ∙ ap number8 e ∙ back8 (counted b) (fits b))
