-- The parts of a whole archive: there is room for each behind those before it, and all of them are the archive.
use Rattle.std.proofs.Common.{ℕ, ◌+◌, ◌*◌, List, ◌∷◌, length, arith}
use Rattle.kinds.specs.Forms.{Formed}
use Rattle.kinds.specs.Stamps.{Order}
use Rattle.kinds.specs.Values.{RecordKind}
use Rattle.model.specs.declared.entry.Entry.{Entry}
use Rattle.registrar.specs.declared.journal.Head.{Head}
use Rattle.archive.specs.Heading.{heading_bytes}
use Rattle.archive.specs.Directory.{pairs_bytes}
use Rattle.archive.specs.Values.{values_bytes}
use Rattle.archive.proofs.Forth.{values_length}
use Rattle.writer.specs.declared.laying.Pen.{Pen}
use Rattle.writer.specs.Jobs.{blocks_of, lengths_of, whole_of}
use Rattle.writer.specs.Pens.{HasRoom, Lays}
use Rattle.writer.proofs.Pens.{lays_room, lays_four}
use Rattle.writer.proofs.Wholes.{directory_long, whole_long}

module _ {S R : Type 0} (o : Order S) (k : RecordKind R) (values : List R) (lines : List (Entry S R)) (hs : List (Head S)) where
  abbrev heading : List ℕ
  heading = heading_bytes o.number k.number (length values) (length hs)

  abbrev directory : List ℕ
  directory = pairs_bytes (20 + 8 * length hs) (12 * length values ∷ lengths_of o k.form lines hs)

  abbrev opening : List ℕ
  opening = values_bytes k.form values

  abbrev blocks : List ℕ
  blocks = blocks_of o k.form lines hs

  module _ (formed : Formed 12 k.form) (p : Pen) (room : HasRoom p (length (whole_of o k values lines hs))) where
    pub heading_room : HasRoom p 12
    heading_room = let w = whole_long o k values lines hs formed in omega (arith, w, room)

    all_room : HasRoom p (length heading + (length directory + (length opening + length blocks)))
    all_room =
        let w = whole_long o k values lines hs formed in
        let d = directory_long o k values lines hs (20 + 8 * length hs) in
        let v = values_length k.form formed values in
        omega (arith, w, d, v, room)

    module _ (q : Pen) (a : Lays p heading q) where
      behind_heading : HasRoom q (length directory + (length opening + length blocks))
      behind_heading = lays_room p q heading (length directory + (length opening + length blocks)) all_room a

      pub directory_room : HasRoom q (8 + 8 * length hs)
      directory_room = let d = directory_long o k values lines hs (20 + 8 * length hs) in omega (arith, d, behind_heading)

      module _ (r : Pen) (b : Lays q directory r) where
        behind_directory : HasRoom r (length opening + length blocks)
        behind_directory = lays_room q r directory (length opening + length blocks) behind_heading b

        pub opening_room : HasRoom r (length opening)
        opening_room = omega (arith, behind_directory)

        module _ (s : Pen) (d : Lays r opening s) where
          pub blocks_room : HasRoom s (length blocks)
          blocks_room = lays_room r s opening (length blocks) behind_directory d

          pub whole_laid : (t : Pen) → Lays s blocks t → Lays p (whole_of o k values lines hs) t
          whole_laid t e = lays_four p q r s t heading directory opening blocks (omega (arith, all_room)) a b d e
