-- Rows: what stands in them, and how a look or a put of an accepted job changes them.
use Rattle.std.specs.Prelude.{ℕ, cond, List, [], ◌∷◌, Option, ◌==◌, nat_le}
use Rattle.kinds.specs.Stamps.{Order}
use Rattle.kinds.specs.Bounds.{later}
use Rattle.model.specs.declared.row.Row.{Row}
use Rattle.model.specs.declared.image.ImageRow.{ImageRow}

-- a value and the stamp under which it was written
pub record Stood (S R : Type 0) : Type 0 where
  pub value : R
  pub stamp : S

-- by the number of versions, where 0 counts as 1 and more than 4 as 4
abbrev pub by_count : {A : Type 0} → ℕ → A → A → A → A → A
by_count n a b c d = cond (nat_le n 1) a (cond (n == 2) b (cond (n == 3) c d))

module _ {S R : Type 0} where
  -- the write stamp: the last version
  abbrev pub write_of : Row S R → S
  write_of r = by_count r.count r.one r.two r.three r.four

  -- the versions before it, the newest first
  abbrev pub older : Row S R → List S
  older r = by_count r.count [] (r.one ∷ []) (r.two ∷ r.one ∷ []) (r.three ∷ r.two ∷ r.one ∷ [])

  abbrev pub stood : Row S R → Stood S R
  stood r = record { value = r.value; stamp = write_of r }

  -- a value with a stamp at the end of the versions; the oldest leaves a full list
  abbrev pub with_put : R → S → Row S R → Row S R
  with_put v s r =
      by_count r.count
      (record { value = v; read = r.read; count = 2; one = r.one; two = s; three = r.three; four = r.four })
      (record { value = v; read = r.read; count = 3; one = r.one; two = r.two; three = s; four = r.four })
      (record { value = v; read = r.read; count = 4; one = r.one; two = r.two; three = r.three; four = s })
      (record { value = v; read = r.read; count = 4; one = r.two; two = r.three; three = r.four; four = s })

  -- the read stamp, made the later of itself and a stamp
  abbrev pub with_look : Order S → S → Row S R → Row S R
  with_look o s r = record { value = r.value; read = later o r.read s; count = r.count; one = r.one; two = r.two; three = r.three; four = r.four }

  -- a row at founding; versions two to four keep their content
  abbrev pub founded_row : Order S → R → Row S R → Row S R
  founded_row o v r = record { value = v; read = o.least; count = 1; one = o.least; two = r.two; three = r.three; four = r.four }

  -- what an image shows of a row with its first write
  abbrev pub shown_row : Row S R → Option S → ImageRow S R
  shown_row r first = record { value = r.value; write = write_of r; read = r.read; first = first }
