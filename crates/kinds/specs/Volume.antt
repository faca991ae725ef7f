-- Stamps of volume and page, 0 to 9,999 each. A larger number counts as 9,999.
use Rattle.std.specs.Prelude.{ℕ, ◌+◌, min, Bool, cond, ◌&&◌, List, ◌++◌, drop, Some, None, Option, ◌==◌, nat_le, nat_lt}
use Rattle.kinds.specs.Bytes.{be4, number4}
use Rattle.kinds.specs.Stamps.{Order, Kind}
use Rattle.kinds.specs.declared.volume.VolumePage.{VolumePage}

abbrev pub volume_page : ℕ → ℕ → VolumePage
volume_page v p = record { volume = v; page = p }

-- the volume and the page that a content counts as
abbrev pub volume_of : VolumePage → ℕ
volume_of s = min s.volume 9999

abbrev pub page_of : VolumePage → ℕ
page_of s = min s.page 9999

-- by volume, then by page
abbrev pub volume_before : VolumePage → VolumePage → Bool
volume_before a b = cond (volume_of a == volume_of b) (nat_lt (page_of a) (page_of b)) (nat_lt (volume_of a) (volume_of b))

-- the stamp that comes next, if any
abbrev pub next_of : ℕ → ℕ → Option VolumePage
next_of v p = cond (nat_lt p 9999) (Some (volume_page v (p + 1))) (cond (nat_lt v 9999) (Some (volume_page (v + 1) 0)) None)

abbrev pub if_before : VolumePage → Option VolumePage → Option VolumePage
if_before upper None = None
if_before upper (Some s) = cond (volume_before s upper) (Some s) None

-- below a bound the next stamp; without one page 0 of the next volume, and in the last volume the next page
abbrev pub volume_pick : VolumePage → Option VolumePage → Option VolumePage
volume_pick lower None =
    cond (nat_lt (volume_of lower) 9999) (Some (volume_page (volume_of lower + 1) 0)) (next_of (volume_of lower) (page_of lower))
volume_pick lower (Some upper) = if_before upper (next_of (volume_of lower) (page_of lower))

abbrev pub volume_written : VolumePage → List ℕ
volume_written s = be4 (volume_of s) ++ be4 (page_of s)

abbrev pub volume_at : ℕ → ℕ → Option VolumePage
volume_at v p = cond (nat_le v 9999 && nat_le p 9999) (Some (volume_page v p)) None

abbrev pub volume_read : List ℕ → Option VolumePage
volume_read bs = volume_at (number4 bs) (number4 (drop 4 bs))

abbrev pub volume_order : Order VolumePage
volume_order =
    record { number = 2; before = volume_before; least = volume_page 0 0; form = record { written = volume_written; read = volume_read } }

abbrev pub volume_kind : Kind VolumePage
volume_kind = record { order = volume_order; pick = volume_pick }
