-- What a call prints before the colon of its answer.
use Rattle.std.specs.Prelude.{ℕ, List, ◌∷◌, ◌++◌, codes}
use Rattle.schedule_calls.specs.declared.command.Archived.{Archived}
use Rattle.schedule_calls.specs.declared.command.Archived.TheVariants.{Bytes, Inspected, Played}
use Rattle.schedule_calls.specs.declared.command.Call.{Call}
use Rattle.schedule_calls.specs.declared.command.Call.TheVariants.{Publish, Open, Look, Put, Tune, Submit, Decide, Settle, Waive}
use Rattle.schedule_calls.specs.Numbers.{numeral}

abbrev pub call_text : {R : Type 0} → Call R → List ℕ
call_text Publish = codes "publish"
call_text (Open name image) = codes "open " ++ name.now
call_text (Look name record' at) = codes "look " ++ (name.now ++ 32 ∷ (numeral record').digits)
call_text (Put name record' value at) = codes "put " ++ (name.now ++ 32 ∷ (numeral record').digits)
call_text (Tune name image) = codes "tune " ++ name.now
call_text (Submit name) = codes "submit " ++ name.now
call_text Decide = codes "decide"
call_text (Settle name image) = codes "settle " ++ name.now
call_text (Waive name) = codes "waive " ++ name.now

-- what a command on the archive prints before the colon
abbrev pub archived_text : Archived → List ℕ
archived_text Bytes = codes "archive"
archived_text Inspected = codes "inspect"
archived_text (Played jobs) = codes "play " ++ (numeral jobs).digits
