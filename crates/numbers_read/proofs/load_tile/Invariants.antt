-- `numbers_read::load_tile` meets its contract: after x turns the first x numbers are written. Assumes nothing.
use Prim.Native.Nat.{ℕ, ◌+◌, ◌*◌}
use mathlib.Core.Path.{◌≡◌}
use mathlib.Core.List.{List}
use lib.Ieee.{Float, binary64, of_bits}
use Rattle.model.specs.Read.{field}
use Rattle.numbers_read.specs.Decoded.{digit_values}
use Rattle.numbers_read.proofs.Filled.{written}
use Rattle.numbers_read.proofs.load_tile.Given as goal

abbrev pub number : List ℕ → ℕ → Float
number l x = of_bits binary64 (field (6 + 16 * x) 16 l)

abbrev pub invariant-loop-x : goal.invariant-loop-x
invariant-loop-x l = (l.tile ≡ written (number l.line) l.initial.tile l.x) × (l.values ≡ digit_values)
