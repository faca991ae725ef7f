-- Why a line is no call, in words.
use Rattle.std.specs.Prelude.{ℕ, List, codes}
use Rattle.schedule_text.specs.declared.reason.Reason.{Reason}
use Rattle.schedule_text.specs.declared.reason.Reason.TheVariants.{Command, PickWords, FormWords, ReadWords, StampKind, Kind, WholeStamp, PageStamp, CardValue, ItemValue, StampForm, ValueForm}

abbrev pub reason_text : Reason → List ℕ
reason_text Command = codes "expected pick, form or read"
reason_text PickWords = codes "expected pick KIND LOWER UPPER"
reason_text FormWords = codes "expected form KIND VALUE"
reason_text ReadWords = codes "expected read KIND DIGITS"
reason_text StampKind = codes "expected the stamp kind whole or page"
reason_text Kind = codes "expected the kind whole, page, card or item"
reason_text WholeStamp = codes "expected a whole stamp, 0 to 4611686018427387903"
reason_text PageStamp = codes "expected a volume and a page, as 3/17, each 0 to 9999"
reason_text CardValue = codes "expected a card, as 4:mm:250"
reason_text ItemValue = codes "expected an item: withdrawn, solid:77 or sub:12:4"
reason_text StampForm = codes "expected 16 hexadecimal digits in lower case"
reason_text ValueForm = codes "expected 24 hexadecimal digits in lower case"
