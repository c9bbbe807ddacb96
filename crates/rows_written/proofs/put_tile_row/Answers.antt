-- `rows_written::put_tile_row` meets its contract: after j turns the first j frames are written. Assumes nothing.
use Prim.Native.Nat.{◌+◌, ◌*◌}
use native.Mathlib.Nat.{zero-mul}
use native.Mathlib.Omega.{arith}
use Rattle.laws.proofs.Blocks.{row_end}
use Rattle.rows_written.specs.Rows.{tile_row}
use Rattle.rows_written.proofs.Turns.{row_none, row_more, row_all, one_more, length_tile}
use Rattle.rows_written.proofs.put_tile_row.Goals as goal

pub loop-j-init : goal.loop-j-init
loop-j-init c =
    row_none _ _ _ _ _ (zero-mul _) (omega arith)

pub loop-j-preserved : goal.loop-j-preserved
loop-j-preserved c =
    let a = c.args in row_more _ _ _ _ _ _ _ (7 + a.s * 16) _ c.loop-j.invariant (row_end _ _ _ c.loop-j-test.true) c.requires.s_in_bounds _ c.loop-j-test.true (one_more _ _) (length_tile a.n a.s a.m.now a.i _ c.requires.i_lt_n.0 c.loop-j-test.true c.requires.s_in_bounds_2) c.put_tile.ensures

pub returns : goal.returns
unfolding tile_row
returns c =
    (row_all _ _ _ _ _ _ _ _ c.loop-j.invariant c.loop-j-test.false).is
