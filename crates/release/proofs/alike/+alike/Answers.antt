-- Where rows are left and no value is, they are not as many.
use Rattle.std.proofs.Common.{rules}
use Rattle.std.proofs.lemmas.Slice.Zip.{AllZip-long}
use Rattle.release.proofs.alike.+alike.Goals as goal

pub returns-in-empty-len1-up-2 : goal.returns-in-empty-len1-up-2
returns-in-empty-len1-up-2 g t c = search (rules, AllZip-long)
