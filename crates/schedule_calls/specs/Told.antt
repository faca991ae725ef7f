-- What a command tells, with its name and its numbers as the bytes of words.
use Rattle.std.specs.Prelude.{ℕ, List, Option}
use Rattle.schedule_calls.specs.declared.command.Archived.{Archived}
use Rattle.schedule_calls.specs.declared.command.Archived.TheVariants.{Bytes, Inspected, Played}
use Rattle.schedule_calls.specs.declared.command.Call.{Call}
use Rattle.schedule_calls.specs.declared.command.Call.TheVariants.{Publish, Open, Look, Put, Tune, Submit, Decide, Settle, Waive}
use Rattle.schedule_calls.specs.declared.command.Command.{Command}
use Rattle.schedule_calls.specs.declared.command.Command.TheVariants.{Make, LetGo, Show, Keep}
use Rattle.schedule_calls.specs.declared.command.View.{View}
use Rattle.schedule_calls.specs.declared.command.View.TheVariants.{Row, Job, Journal, Image}
use Rattle.schedule_calls.specs.Numbers.{Numeral, numeral}

pub data ToldCall (R : Type 0) : Type 0 where
  publishes : ToldCall R
  opens : List ℕ → ℕ → ToldCall R
  looks : List ℕ → Numeral → Option ℕ → ToldCall R
  puts : List ℕ → Numeral → R → Option ℕ → ToldCall R
  tunes : List ℕ → ℕ → ToldCall R
  submits : List ℕ → ToldCall R
  decides : ToldCall R
  settles : List ℕ → ℕ → ToldCall R
  waives : List ℕ → ToldCall R

pub data ToldView : Type 0 where
  a_row : ℕ → ToldView
  a_job : List ℕ → ToldView
  the_journal : ToldView
  an_image : ℕ → ToldView

pub data ToldArchived : Type 0 where
  the_bytes : ToldArchived
  inspects : ToldArchived
  plays : Numeral → ToldArchived

pub data Told (R : Type 0) : Type 0 where
  makes : ToldCall R → Told R
  lets_go : List ℕ → Told R
  shows : ToldView → Told R
  keeps : ToldArchived → Told R

abbrev pub call_told : {R : Type 0} → Call R → ToldCall R
call_told Publish = publishes
call_told (Open name image) = opens name.now image
call_told (Look name record' at) = looks name.now (numeral record') at
call_told (Put name record' value at) = puts name.now (numeral record') value at
call_told (Tune name image) = tunes name.now image
call_told (Submit name) = submits name.now
call_told Decide = decides
call_told (Settle name image) = settles name.now image
call_told (Waive name) = waives name.now

abbrev pub view_told : View → ToldView
view_told (Row record') = a_row record'
view_told (Job name) = a_job name.now
view_told Journal = the_journal
view_told (Image number) = an_image number

abbrev pub archived_told : Archived → ToldArchived
archived_told Bytes = the_bytes
archived_told Inspected = inspects
archived_told (Played jobs) = plays (numeral jobs)

abbrev pub command_told : {R : Type 0} → Command R → Told R
command_told (Make call) = makes (call_told call)
command_told (LetGo name) = lets_go name.now
command_told (Show view) = shows (view_told view)
command_told (Keep archived) = keeps (archived_told archived)
