-- `lists_written::put_list_row` meets its contract: after j turns the first j frames are written. Assumes nothing.
use Prim.Native.Nat.{◌+◌, ◌*◌}
use Rattle.rows_written.proofs.Turns.{Row, list_piece}
use Rattle.lists_written.proofs.put_list_row.Given as goal

abbrev pub invariant-loop-j : goal.invariant-loop-j
invariant-loop-j l = Row (list_piece l.n l.t l.l l.i) (λ k. k * (7 + l.t * 2)) l.at (l.i + 1) l.initial.text l.place l.j l.text
