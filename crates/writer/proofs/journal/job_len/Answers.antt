use Rattle.std.proofs.Common.{sym, ap, ◌∙◌}
use Rattle.law.specs.Daybook.{job_at}
use Rattle.archive.specs.Lengths.{block_length}
use Rattle.archive.proofs.Long.{block_long}
use Rattle.writer.specs.Blocks.{look_count, put_count}
use Rattle.writer.proofs.journal.job_len.Goals as goal

pub returns-clause-long : goal.returns-clause-long
returns-clause-long g c =
    c.block_len.ensures.long ∙ ap (λ es. block_length (look_count es) (put_count es)) c.entries.ensures.entries
    ∙ sym (block_long g.S.Stamp.kind.order g.R.Record.kind.form g.met.S.Stamp.lawful.ordered.formed g.met.R.Record.written (job_at c.args.lines.now c.args.head))
