-- `lists_written::put_lists` meets its contract: after i turns the first i rows are written. Assumes nothing.
use Prim.Native.Nat.{◌+◌, ◌*◌}
use Rattle.rows_written.specs.Rows.{list_row, triangle}
use Rattle.rows_written.proofs.Turns.{Row}
use Rattle.lists_written.proofs.put_lists.Given as goal

abbrev pub invariant-loop-i : goal.invariant-loop-i
invariant-loop-i l = Row (list_row l.n l.t l.l) (λ k. triangle k * (7 + l.t * 2)) l.at l.n l.initial.text l.place l.i l.text
