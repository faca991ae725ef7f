-- A name of six letters and more is more than the search goes through: the word has just these letters.
use Rattle.std.proofs.Common.{codes, arith, refl}
use Rattle.schedule_calls.specs.declared.reason.Form.TheVariants.{Publish, Submit, Decide, Settle, Journal, Archive, Inspect}
use Rattle.schedule_calls.proofs.Letters.{named}
use Rattle.schedule_calls.proofs.parse.form_of.Goals as goal

pub returns-in-publish : goal.returns-in-publish
returns-in-publish c = named c.args.word.now (codes "publish") Publish (omega arith) (omega arith, (omega arith, (omega arith, (omega arith, (omega arith, (omega arith, (omega arith, tt))))))) refl

pub returns-in-submit : goal.returns-in-submit
returns-in-submit c = named c.args.word.now (codes "submit") Submit (omega arith) (omega arith, (omega arith, (omega arith, (omega arith, (omega arith, (omega arith, tt)))))) refl

pub returns-in-decide : goal.returns-in-decide
returns-in-decide c = named c.args.word.now (codes "decide") Decide (omega arith) (omega arith, (omega arith, (omega arith, (omega arith, (omega arith, (omega arith, tt)))))) refl

pub returns-in-settle : goal.returns-in-settle
returns-in-settle c = named c.args.word.now (codes "settle") Settle (omega arith) (omega arith, (omega arith, (omega arith, (omega arith, (omega arith, (omega arith, tt)))))) refl

pub returns-in-journal : goal.returns-in-journal
returns-in-journal c = named c.args.word.now (codes "journal") Journal (omega arith) (omega arith, (omega arith, (omega arith, (omega arith, (omega arith, (omega arith, (omega arith, tt))))))) refl

pub returns-in-archive : goal.returns-in-archive
returns-in-archive c = named c.args.word.now (codes "archive") Archive (omega arith) (omega arith, (omega arith, (omega arith, (omega arith, (omega arith, (omega arith, (omega arith, tt))))))) refl

pub returns-in-inspect : goal.returns-in-inspect
returns-in-inspect c = named c.args.word.now (codes "inspect") Inspect (omega arith) (omega arith, (omega arith, (omega arith, (omega arith, (omega arith, (omega arith, (omega arith, tt))))))) refl
