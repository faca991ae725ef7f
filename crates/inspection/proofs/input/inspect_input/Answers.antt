use Rattle.std.proofs.Common.{string_bytes, ap, ◌∙◌}
use Rattle.inspection.specs.Findings.{found}
use Rattle.inspection.proofs.Taken.{known_found}
use Rattle.inspection.proofs.input.inspect_input.Goals as goal

pub returns : goal.returns
returns g c =
    known_found (g.R.Read.remaining c.args.reader) (g.R.Read.remaining c.take.result.inner) c.take.result.limit c.new-bytes.result.items
    c.read_to_end.new.buf.items (string_bytes c.in_ok-line.field-0) c.find.result (ap g.R.Read.remaining c.take.ensures.inner) c.take.ensures.limit
    c.new-bytes.ensures.items c.in_ok-read_to_end.ensures.bytes (c.find.ensures ∙ ap found c.deref.ensures.value) c.in_ok-line.ensures
