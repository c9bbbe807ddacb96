-- The backward rows from any row on, and those done where they stop. Assumes nothing.
use Rattle.std.specs.Prelude.{ℕ, suc, ◌-◌, reverse, Result, Ok, Err}
use Rattle.model.specs.Lists.{run, below, in_turn}
use Rattle.model.specs.Plan.{Plan}
use Rattle.model.specs.Buffer.{Buffers}
use Rattle.model.specs.Solve.{Passed, back}

-- rows 0 to k - 1, from last to first
unfoldable pub back_below : Plan → Buffers → ℕ → Passed → Passed
back_below z s k p = in_turn (back z s) (reverse (below k)) p

-- rows k to n - 1, from last to first
unfoldable pub back_between : Plan → Buffers → ℕ → ℕ → Passed → Passed
back_between z s k n p = in_turn (back z s) (reverse (run k (n - k))) p

-- the lowest row done, of the rows from k on: k itself, or the one beyond the row that stopped them
unfoldable pub lowest_done : ℕ → Result (Unit {0}) ℕ → ℕ
lowest_done k (Ok u) = k
lowest_done k (Err x) = suc x
