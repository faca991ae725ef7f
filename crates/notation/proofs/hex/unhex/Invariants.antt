use Rattle.std.proofs.Common.{◌≡◌, ◌-◌, length, take}
use Rattle.notation.specs.Hex.{unhexed}
use Rattle.notation.proofs.HexLaws.{so_far}
use Rattle.notation.proofs.hex.unhex.Given as goal

-- the answer is what is left gives, after the bytes so far
abbrev pub invariant-loop-byte : goal.invariant-loop-byte
invariant-loop-byte g l = (so_far (take l.byte-index l.byte-items) (unhexed (g.row.N - l.byte-index) l.rest) ≡ unhexed g.row.N l.word) × (length l.byte-items ≡ g.row.N)
