-- The words that a command has.
use Rattle.std.specs.Prelude.{ℕ, List, codes}
use Rattle.schedule_calls.specs.declared.reason.Form.{Form}
use Rattle.schedule_calls.specs.declared.reason.Form.TheVariants.{Found, Publish, Open, Look, Put, Tune, Submit, Decide, Settle, Waive, LetGo, Row, Job, Journal, Image, Archive, Inspect, Play}

abbrev pub form_text : Form → List ℕ
form_text Found = codes "found STAMPKIND RECORDKIND PLACES VALUE ..."
form_text Publish = codes "publish"
form_text Open = codes "open NAME IMAGE"
form_text Look = codes "look NAME RECORD or look NAME RECORD at IMAGE"
form_text Put = codes "put NAME RECORD VALUE or put NAME RECORD VALUE at IMAGE"
form_text Tune = codes "tune NAME IMAGE"
form_text Submit = codes "submit NAME"
form_text Decide = codes "decide"
form_text Settle = codes "settle NAME IMAGE"
form_text Waive = codes "waive NAME"
form_text LetGo = codes "drop NAME"
form_text Row = codes "row RECORD"
form_text Job = codes "job NAME"
form_text Journal = codes "journal"
form_text Image = codes "image IMAGE"
form_text Archive = codes "archive"
form_text Inspect = codes "inspect"
form_text Play = codes "play M"
