use Rattle.std.proofs.Common.{string_bytes, true-eqb}
use Rattle.schedule_text.proofs.RunLaws.{no_input}
use Rattle.schedule_text.proofs.run.run.Goals as goal

pub returns-then-is_empty : goal.returns-then-is_empty
returns-then-is_empty c =
    no_input (string_bytes c.in_ok-from_str.field-0) c.args.input.now (true-eqb _ 0 c.if-is_empty.ensures) c.in_ok-from_str.ensures.ok
