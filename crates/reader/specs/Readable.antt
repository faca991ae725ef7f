-- Looks and puts that can be read.
use Rattle.std.specs.Prelude.{◌≡◌, ℕ, ◌+◌, ◌*◌, ◌≤◌, true, List, length, Ok}
use Rattle.kinds.specs.Forms.{Form}
use Rattle.kinds.specs.Stamps.{Order}
use Rattle.archive.specs.Values.{read_values}
use Rattle.archive.specs.Blocks.{all_noted}

module _ {S R : Type 0} (o : Order S) (f : Form R) (bs : List ℕ) where
  -- so many looks from a place on are all there, each with a stamp and a value
  pub record ReadableLooks (at r : ℕ) : Type 0 where
    pub within : at + 22 * r ≤ length bs
    pub noted : all_noted o bs at r ≡ true
    pub valued : read_values f bs (at + 10) 22 r ≡ Ok tt

-- so many puts from a place on are all there, each with a value
pub record ReadablePuts {R : Type 0} (f : Form R) (bs : List ℕ) (at p : ℕ) : Type 0 where
  pub within : at + 14 * p ≤ length bs
  pub valued : read_values f bs (at + 2) 14 p ≡ Ok tt

-- so many looks and puts of the block at a place
pub record Readable {S R : Type 0} (o : Order S) (f : Form R) (bs : List ℕ) (at r p : ℕ) : Type 0 where
  pub front : at + 16 ≤ length bs
  pub looks : ReadableLooks o f bs (at + 16) r
  pub puts : ReadablePuts f bs (at + 16 + 22 * r) p
