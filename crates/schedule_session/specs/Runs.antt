-- What a run prints without input, and how it ends.
use Rattle.std.specs.Prelude.{ℕ, List, Result, Ok, Err, codes}
use Rattle.schedule_text.specs.declared.run.Stopped.{Stopped}
use Rattle.schedule_session.specs.declared.run.Stop.{Stop}

abbrev pub help_text : List ℕ
help_text =
    codes "A schedule: one command to a line. Lines that begin with # are passed over.\n\nfound STAMPKIND RECORDKIND PLACES VALUE ...\n  the register of these opening values; STAMPKIND is whole or page, RECORDKIND card or item, PLACES 1 to 4096\npublish\n  the next image\nopen NAME IMAGE\n  a job at an image\nlook NAME RECORD [at IMAGE]\n  the job's value of a record\nput NAME RECORD VALUE [at IMAGE]\n  a new value for a record\ntune NAME IMAGE\n  the job goes on to the next image\nsubmit NAME\n  the job goes to the registrar, and NAME stands for its ticket\ndecide\n  the verdict on the oldest submission\nsettle NAME IMAGE\n  the verdict on a ticket, as the image has it\nwaive NAME\n  the ticket is spent unread\ndrop NAME\n  a job that was not submitted is let go\n\nrow RECORD, job NAME, journal, image IMAGE\n  show a state\narchive\n  the archive of the journal, in hexadecimal digits\ninspect\n  whether that archive is sound, with its number of jobs\nplay M\n  the values after the first M jobs of that archive\n\npick KIND LOWER UPPER\n  a stamp after LOWER and before UPPER, which may be none; KIND is whole or page\nform KIND VALUE\n  the written form of a stamp or value; KIND is whole, page, card or item\nread KIND DIGITS\n  the stamp or value of a written form of 16 or 24 hexadecimal digits\n\nvalues: whole 65536, page 3/17, card 4:mm:250, item withdrawn, solid:77 or sub:12:4\n"

-- a run that stops names the line at which it does
abbrev pub ending_of : Result (Unit {0}) Stop → Result (Unit {0}) Stopped
ending_of (Ok t) = Ok t
ending_of (Err stop) = Err (record { line = stop.line })
