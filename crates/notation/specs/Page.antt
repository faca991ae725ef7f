-- Stamps of volume and page as text: volume, '/', page, each 0 to 9,999.
use Rattle.std.specs.Prelude.{ℕ, List, ◌∷◌, ◌++◌, Some, None, decimal, Option}
use Rattle.kinds.specs.Volume.{volume_page, volume_of, page_of, volume_kind}
use Rattle.kinds.specs.declared.volume.VolumePage.{VolumePage}
use Rattle.notation.specs.Text.{Notes}
use Rattle.notation.specs.Numbers.{number_of}
use Rattle.notation.specs.Cuts.{Cut, cut_at}

abbrev pub page_text : VolumePage → List ℕ
page_text s = decimal (volume_of s) ++ 47 ∷ decimal (page_of s)

abbrev pub page_at : Option ℕ → Option ℕ → Option VolumePage
page_at (Some volume) (Some page) = Some (volume_page volume page)
page_at (Some volume) None = None
page_at None page = None

abbrev pub page_cut : Option Cut → Option VolumePage
page_cut (Some p) = page_at (number_of 9999 p.front) (number_of 9999 p.back)
page_cut None = None

abbrev pub page_parsed : List ℕ → Option VolumePage
page_parsed ds = page_cut (cut_at 47 ds)

abbrev pub page_notes : Notes VolumePage
page_notes = record { text = page_text; parsed = page_parsed; form = volume_kind.order.form }
