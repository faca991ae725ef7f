-- Whole stamps: 0 to 2^62 - 1. A larger content counts as 2^62 - 1.
use Rattle.std.specs.Prelude.{ℕ, ◌+◌, ◌-◌, ◌/◌, min, Bool, cond, List, Some, None, Option, nat_le, nat_lt}
use Rattle.kinds.specs.Bytes.{be8, number8}
use Rattle.kinds.specs.Stamps.{Order, Kind}
use Rattle.kinds.specs.declared.whole.Whole.{Whole}

abbrev pub whole : ℕ → Whole
whole n = record { place = n }

-- the stamp that a content counts as
abbrev pub counted : Whole → ℕ
counted w = min w.place 4611686018427387903

abbrev pub whole_before : Whole → Whole → Bool
whole_before a b = nat_lt (counted a) (counted b)

-- halfway between two bounds, rounded down, where a stamp lies between them
abbrev pub halfway : ℕ → ℕ → Option Whole
halfway lower upper = cond (nat_lt (lower + 1) upper) (Some (whole (lower + (upper - lower) / 2))) None

-- 65,536 further on, or the last stamp where that is smaller and above the lower bound
abbrev pub onward : ℕ → Option Whole
onward lower = cond (nat_lt lower 4611686018427387903) (Some (whole (min (lower + 65536) 4611686018427387903))) None

abbrev pub whole_pick : Whole → Option Whole → Option Whole
whole_pick lower None = onward (counted lower)
whole_pick lower (Some upper) = halfway (counted lower) (counted upper)

abbrev pub whole_written : Whole → List ℕ
whole_written w = be8 (counted w)

abbrev pub whole_of : ℕ → Option Whole
whole_of n = cond (nat_le n 4611686018427387903) (Some (whole n)) None

abbrev pub whole_read : List ℕ → Option Whole
whole_read bs = whole_of (number8 bs)

abbrev pub whole_order : Order Whole
whole_order =
    record { number = 1; before = whole_before; least = whole 0; form = record { written = whole_written; read = whole_read } }

abbrev pub whole_kind : Kind Whole
whole_kind = record { order = whole_order; pick = whole_pick }
