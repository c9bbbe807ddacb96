-- `lists_written::put_list_row` meets its contract: after j turns the first j frames are written. Assumes nothing.
use Prim.Native.Nat.{◌+◌, ◌*◌}
use native.Mathlib.Nat.{zero-mul}
use native.Mathlib.Omega.{arith}
use Rattle.laws.proofs.Blocks.{row_end}
use Rattle.rows_written.specs.Rows.{list_row}
use Rattle.rows_written.proofs.Turns.{row_none, row_more, row_all, one_more, length_list}
use Rattle.lists_written.proofs.put_list_row.Goals as goal

pub loop-j-init : goal.loop-j-init
loop-j-init c =
    row_none _ _ _ _ _ (zero-mul _) (omega arith)

pub loop-j-preserved : goal.loop-j-preserved
loop-j-preserved c =
    let a = c.args in row_more _ _ _ _ _ _ _ (7 + a.t * 2) _ c.loop-j.invariant (row_end _ _ _ (omega arith)) c.requires.t_in_bounds _ (omega arith) (one_more _ _) (length_list a.n a.t a.l.now a.i _ c.requires.i_lt_n.0 (omega arith) c.requires.t_in_bounds_2) c.put_list.ensures

pub returns : goal.returns
unfolding list_row
returns c =
    (row_all _ _ _ _ _ _ _ _ c.loop-j.invariant (omega arith)).is
