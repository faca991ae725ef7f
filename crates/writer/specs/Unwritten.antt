-- Why an archive is not written: each case and its number.
use Rattle.std.specs.Prelude.{ℕ, List, ◌++◌, codes, decimal}
use Rattle.writer.specs.declared.unwritten.Unwritten.{Unwritten}
use Rattle.writer.specs.declared.unwritten.Unwritten.TheVariants.{WrongTables, SpaceShort}

abbrev pub unwritten_number : Unwritten → ℕ
unwritten_number WrongTables = 1
unwritten_number SpaceShort = 18

-- a case as it is printed
abbrev pub unwritten_text : Unwritten → List ℕ
unwritten_text why = codes "refused " ++ decimal (unwritten_number why)
