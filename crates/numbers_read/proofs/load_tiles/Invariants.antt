-- `numbers_read::load_tiles` meets its contract: after q turns the first q tiles are written. Assumes nothing.
use Prim.Native.Nat.{ℕ, ◌+◌, ◌*◌}
use mathlib.Core.Path.{◌≡◌}
use mathlib.Core.List.{List}
use lib.Ieee.{Float}
use Rattle.numbers_read.specs.Decoded.{line_at, tile_size, numbers_of}
use Rattle.numbers_read.proofs.Filled.{parted}
use Rattle.numbers_read.proofs.load_tiles.Given as goal

-- the numbers of tile q
abbrev pub held : List ℕ → ℕ → ℕ → ℕ → List Float
held text at s q = numbers_of s (line_at (at + q * tile_size s) (tile_size s) text)

abbrev pub invariant-loop-q : goal.invariant-loop-q
invariant-loop-q l = l.matrix ≡ parted l.s (held l.text l.at l.s) l.initial.matrix l.q
