-- `rows_written::put_tiles` meets its contract: after i turns the first i rows are written. Assumes nothing.
use Prim.Native.Nat.{◌+◌, ◌*◌}
use Rattle.rows_written.specs.Rows.{tile_row}
use Rattle.rows_written.proofs.Turns.{Row}
use Rattle.rows_written.proofs.put_tiles.Given as goal

abbrev pub invariant-loop-i : goal.invariant-loop-i
invariant-loop-i l = Row (tile_row l.n l.s l.m) (λ k. k * (l.n * (7 + l.s * 16))) l.at l.n l.initial.text l.place l.i l.text
