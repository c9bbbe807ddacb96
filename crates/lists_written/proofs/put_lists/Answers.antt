-- `lists_written::put_lists` meets its contract: after i turns the first i rows are written. Assumes nothing.
use Prim.Native.Nat.{◌+◌, ◌*◌}
use native.Mathlib.Nat.{zero-mul}
use native.Mathlib.Omega.{arith}
use Rattle.rows_written.specs.Rows.{list_rows, triangle}
use Rattle.rows_written.proofs.Turns.{row_none, row_room, row_more, row_all, lists_more, lists_fit, length_list_row}
use Rattle.lists_written.proofs.put_lists.Goals as goal

pub loop-i-init : goal.loop-i-init
unfolding triangle
loop-i-init c =
    row_none _ _ _ _ _ (zero-mul _) (omega arith)

pub put_list_row-requires-clause-t_in_bounds : goal.put_list_row-requires-clause-t_in_bounds
put_list_row-requires-clause-t_in_bounds c =
    row_room _ _ _ _ _ _ _ ((c.loop-i.i + 1) * (7 + c.args.t * 2)) _ c.loop-i.invariant (lists_fit _ _ _ c.loop-i-test.true) c.requires.t_in_bounds

pub loop-i-preserved : goal.loop-i-preserved
loop-i-preserved c =
    let a = c.args in row_more _ _ _ _ _ _ _ ((c.loop-i.i + 1) * (7 + a.t * 2)) _ c.loop-i.invariant (lists_fit _ _ _ c.loop-i-test.true) c.requires.t_in_bounds _ c.loop-i-test.true (lists_more _ _) (length_list_row a.n a.t a.l.now _ c.loop-i-test.true c.requires.t_in_bounds_2) c.put_list_row.ensures

pub returns : goal.returns
unfolding list_rows
returns c =
    (row_all _ _ _ _ _ _ _ _ c.loop-i.invariant c.loop-i-test.false).is
