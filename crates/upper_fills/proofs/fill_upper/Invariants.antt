-- `fill_upper` meets its contract: after r turns the first r rows are done. Assumes nothing.
use mathlib.Core.Bool.{cond}
use mathlib.Core.List.{List}
use Prim.Native.Nat.{ℕ, ◌+◌, ◌*◌, ◌/◌, ◌%◌}
use lib.Dec.{leb}
use lib.ListN.{get_or}
use lib.Ieee.{Float, nan}
use Rattle.model.specs.Num.{plus_zero}
use Rattle.fills.proofs.Stores.{Stored}
use Rattle.upper_fills.proofs.fill_upper.Given as goal

-- row r, column q of the tile at start: +0 on the diagonal and above
abbrev pub cell : ℕ → ℕ → List Float → ℕ → ℕ → Float
cell t start m r q = cond (leb r q) plus_zero (get_or m (start + r * t + q) nan)

-- number j of the tile
unfoldable pub upper : ℕ → ℕ → List Float → ℕ → Float
upper t start m j = cell t start m (j / t) (j % t)

abbrev pub invariant-loop-r : goal.invariant-loop-r
invariant-loop-r l = Stored nan l.start (l.r * l.t) (upper l.t l.start l.initial.m) l.initial.m l.m
