-- Tables that the caller brings: their sizes, and what a write leaves in them.
use Rattle.std.specs.Prelude.{ℕ, Bool, ◌&&◌, List, ◌++◌, length, take, drop, ◌==◌, nat_le}

-- a register has 1 to 1,024 records
abbrev pub lawful_size : ℕ → Bool
lawful_size n = nat_le 1 n && nat_le n 1024

abbrev pub sized : {A : Type 0} → List A → ℕ → Bool
sized table n = length table == n

-- new places at the front of a table; the places behind them keep their content
abbrev pub laid : {A : Type 0} → List A → List A → List A
laid new table = new ++ drop (length new) table

-- new places from a place on; the others keep their content
abbrev pub laid_from : {A : Type 0} → ℕ → List A → List A → List A
laid_from at new table = take at table ++ laid new (drop at table)
