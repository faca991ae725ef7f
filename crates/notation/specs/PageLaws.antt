-- A printed stamp of volume and page parses back.
use Rattle.std.specs.Prelude.{◌≡◌, ◌^◌, ◌<◌, ◌∷◌, ◌++◌, drop, Some, decimal}
use Rattle.std.proofs.Common.{sym, ap, ◌∙◌, arith}
use Rattle.std.specs.Option.{option_map}
use Rattle.std.proofs.lemmas.Bool.{false≢true}
use Rattle.kinds.specs.Bytes.{number4}
use Rattle.kinds.specs.Volume.{volume_page, volume_of, page_of, volume_written}
use Rattle.kinds.specs.declared.volume.VolumePage.{VolumePage}
use Rattle.kinds.specs.ByteLaws.{back4}
use Rattle.notation.specs.Text.{ParsesBack, PrintsAlike}
use Rattle.notation.specs.Page.{page_notes, page_text, page_cut, page_parsed}
use Rattle.notation.specs.NumberLaws.{number_back}
use Rattle.notation.specs.CutLaws.{decimal_cut}

parsed : (s : VolumePage) → page_parsed (page_text s) ≡ Some (volume_page (volume_of s) (page_of s))
parsed s =
    let v = number_back 9999 (volume_of s) (omega arith) (omega arith) in
    let p = number_back 9999 (page_of s) (omega arith) (omega arith) in
    ap page_cut (decimal_cut 47 (volume_of s) (decimal (page_of s)) false≢true (omega arith)) ∙ cc

again_volume : (s : VolumePage) → volume_of (volume_page (volume_of s) (page_of s)) ≡ volume_of s
again_volume s = omega arith

again_page : (s : VolumePage) → page_of (volume_page (volume_of s) (page_of s)) ≡ page_of s
again_page s = omega arith

pub page_back : ParsesBack page_notes
page_back s =
    let v = again_volume s in
    let p = again_page s in
    ap (option_map volume_written) (parsed s) ∙ cc

volume_fits : (s : VolumePage) → volume_of s < 2 ^ 32
volume_fits s = omega arith

page_fits : (s : VolumePage) → page_of s < 2 ^ 32
page_fits s = omega arith

pub page_alike : PrintsAlike page_notes
page_alike a b e =
    let v = sym (back4 (volume_of a) (volume_fits a)) ∙ ap number4 e ∙ back4 (volume_of b) (volume_fits b) in
    let p = sym (back4 (page_of a) (page_fits a)) ∙ ap (λ bs. number4 (drop 4 bs)) e ∙ back4 (page_of b) (page_fits b) in
    ap (λ n. decimal n ++ 47 ∷ decimal (page_of a)) v ∙ ap (λ n. decimal (volume_of b) ++ 47 ∷ decimal n) p
