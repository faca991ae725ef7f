-- A pen that lays forms over the bytes of a space.
use Rattle.std.specs.Prelude.{◌≡◌, ℕ, ◌+◌, ◌≤◌, List, length}
use Rattle.writer.specs.declared.laying.Pen.{Pen}
use Rattle.archive.specs.Laying.{laid_over}

-- there is room for so many bytes from the pen's place on
abbrev pub HasRoom : Pen → ℕ → Type 0
HasRoom p n = p.at + n ≤ length p.space.now

-- a pen that laid some bytes: in the same space, the bytes laid over it, and its place right behind them
abbrev pub Lays : Pen → List ℕ → Pen → Type 0
Lays p xs q = (q.space.ghost_name ≡ p.space.ghost_name) × ((q.space.now ≡ laid_over p.at xs p.space.now) × (q.at ≡ p.at + length xs))
