-- `rows_written::put_tile_row` meets its contract: after j turns the first j frames are written. Assumes nothing.
use Prim.Native.Nat.{◌+◌, ◌*◌}
use Rattle.rows_written.proofs.Turns.{Row, tile_piece}
use Rattle.rows_written.proofs.put_tile_row.Given as goal

abbrev pub invariant-loop-j : goal.invariant-loop-j
invariant-loop-j l = Row (tile_piece l.n l.s l.m l.i) (λ k. k * (7 + l.s * 16)) l.at l.n l.initial.text l.place l.j l.text
