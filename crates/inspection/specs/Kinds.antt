-- The inspection of an archive by the kinds that its heading names.
use Rattle.std.specs.Prelude.{ℕ, cond, List, length, Err, Result, IsSome, ◌==◌, nat_le, slice_index}
use Rattle.kinds.specs.Stamps.{Order}
use Rattle.kinds.specs.Whole.{whole_kind}
use Rattle.kinds.specs.Volume.{volume_kind}
use Rattle.kinds.specs.Card.{card_kind}
use Rattle.kinds.specs.Item.{item_kind}
use Rattle.archive.specs.declared.fault.Fault.{Fault}
use Rattle.archive.specs.declared.fault.Fault.TheVariants.{HeadingWrong}
use Rattle.archive.specs.Faults.{fault_listed}
use Rattle.archive.specs.Rule.{inspected}

-- by the number of a record kind: cards or items
abbrev pub inspected_under : {S : Type 0} → Order S → ℕ → List ℕ → Result ℕ Fault
inspected_under o records bs =
    cond (records == card_kind.number) (inspected o card_kind bs) (cond (records == item_kind.number) (inspected o item_kind bs) (Err HeadingWrong))

-- by the numbers of both kinds
abbrev pub inspected_under_both : ℕ → ℕ → List ℕ → Result ℕ Fault
inspected_under_both stamps records bs =
    cond (stamps == whole_kind.order.number) (inspected_under whole_kind.order records bs)
    (cond (stamps == volume_kind.order.number) (inspected_under volume_kind.order records bs) (Err HeadingWrong))

-- the numbers stand in bytes 4 and 5
abbrev pub inspected_by_kinds : List ℕ → Result ℕ Fault
inspected_by_kinds bs = cond (nat_le 6 (length bs)) (inspected_under_both (slice_index bs 4) (slice_index bs 5) bs) (Err HeadingWrong)

-- the fault stands at a place
abbrev pub HasPlace : Fault → Type 0
HasPlace fault = IsSome (fault_listed fault).place
