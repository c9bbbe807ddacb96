-- `update_column` meets its contract: what its loops have done is `ColumnDone`. Assumes nothing.
use mathlib.Core.Path.{◌≡◌}
use Prim.Native.Nat.{◌-◌, ◌%◌, ◌≤◌}
use Rattle.row_updates.proofs.Column.{ColumnDone}
use Rattle.row_updates.proofs.update_column.Given as goal

abbrev pub invariant-loop-r : goal.invariant-loop-r
invariant-loop-r l = (l.ones ≤ l.rows) × ((l.rows - l.ones) % 4 ≡ 0) × ColumnDone 0 l.start l.first l.stride l.upper l.l l.r l.initial.y l.y

abbrev pub invariant-loop-r-2 : goal.invariant-loop-r-2
invariant-loop-r-2 l = (l.r ≤ l.rows) × ((l.rows - l.r) % 4 ≡ 0) × ColumnDone l.ones l.start l.first l.stride l.upper l.l l.r l.initial.y l.y
