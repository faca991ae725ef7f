-- The kinds that the heading of an archive names, and a question that is asked by them.
use Rattle.std.specs.Prelude.{ℕ, cond, List, length, Some, None, Err, Option, Result, ◌==◌, nat_le, slice_index}
use Rattle.kinds.specs.Stamps.{Order}
use Rattle.kinds.specs.Values.{RecordKind}
use Rattle.kinds.specs.Whole.{whole_kind}
use Rattle.kinds.specs.Volume.{volume_kind}
use Rattle.kinds.specs.Card.{card_kind}
use Rattle.kinds.specs.Item.{item_kind}
use Rattle.archive.specs.declared.fault.Fault.{Fault}
use Rattle.archive.specs.declared.fault.Fault.TheVariants.{HeadingWrong}
use Rattle.archive_view.specs.declared.named.Kinds.{Kinds}
use Rattle.archive_view.specs.declared.named.Kinds.TheVariants.{WholeCards, WholeItems, PageCards, PageItems}

-- one of two, by the number of a record kind
abbrev pub records_named : ℕ → Kinds → Kinds → Option Kinds
records_named number cards items = cond (number == card_kind.number) (Some cards) (cond (number == item_kind.number) (Some items) None)

-- by the numbers of both kinds
abbrev pub kinds_numbered : ℕ → ℕ → Option Kinds
kinds_numbered stamps records =
    cond (stamps == whole_kind.order.number) (records_named records WholeCards WholeItems)
    (cond (stamps == volume_kind.order.number) (records_named records PageCards PageItems) None)

-- the numbers stand in bytes 4 and 5
abbrev pub kinds_named : List ℕ → Option Kinds
kinds_named bs = cond (nat_le 6 (length bs)) (kinds_numbered (slice_index bs 4) (slice_index bs 5)) None

-- what is answered by any two kinds, answered by those that are named; without them the heading is wrong
abbrev pub by_kinds : {A : Type 0} → ((S R : Type 0) → Order S → RecordKind R → Result A Fault) → Option Kinds → Result A Fault
by_kinds ask None = Err HeadingWrong
by_kinds ask (Some WholeCards) = ask _ _ whole_kind.order card_kind
by_kinds ask (Some WholeItems) = ask _ _ whole_kind.order item_kind
by_kinds ask (Some PageCards) = ask _ _ volume_kind.order card_kind
by_kinds ask (Some PageItems) = ask _ _ volume_kind.order item_kind
