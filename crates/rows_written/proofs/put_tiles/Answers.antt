-- `rows_written::put_tiles` meets its contract: after i turns the first i rows are written. Assumes nothing.
use Prim.Native.Nat.{◌+◌, ◌*◌}
use native.Mathlib.Nat.{zero-mul}
use native.Mathlib.Omega.{arith}
use Rattle.laws.proofs.Blocks.{row_end}
use Rattle.rows_written.specs.Rows.{tile_rows}
use Rattle.rows_written.proofs.Turns.{row_none, row_more, row_all, one_more, length_tile_row}
use Rattle.rows_written.proofs.put_tiles.Goals as goal

pub loop-i-init : goal.loop-i-init
loop-i-init c =
    row_none _ _ _ _ _ (zero-mul _) (omega arith)

pub loop-i-preserved : goal.loop-i-preserved
loop-i-preserved c =
    let a = c.args in row_more _ _ _ _ _ _ _ (a.n * (7 + a.s * 16)) _ c.loop-i.invariant (row_end _ _ _ c.loop-i-test.true) c.requires.s_in_bounds _ c.loop-i-test.true (one_more _ _) (length_tile_row a.n a.s a.m.now _ c.loop-i-test.true c.requires.s_in_bounds_2) c.put_tile_row.ensures

pub returns : goal.returns
unfolding tile_rows
returns c =
    (row_all _ _ _ _ _ _ _ _ c.loop-i.invariant c.loop-i-test.false).is
