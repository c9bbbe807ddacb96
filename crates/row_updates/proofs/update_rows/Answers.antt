-- `update_rows` meets its contract: what the loop over rows has done is `RowsDone`. Assumes nothing.
use native.Mathlib.Omega.{arith}
use lib.Ieee.{of_bits}
use Rattle.laws.proofs.Blocks.{row_end}
use Rattle.model.specs.Num.{is_zero}
use Rattle.row_updates.proofs.Updated.{row_is, rows_more, row_zero, rows_all, rows_stop, top_kept, top_apart, multiplier_same}
use Rattle.row_updates.proofs.update_rows.Goals as goal

pub loop-r-preserved-then-by : goal.loop-r-preserved-then-by
unfolding of_bits is_zero
loop-r-preserved-then-by c =
    let rows = c.loop-r in
    let row = c.loop-r-test.true in
    rows_more _ _ _ _ _ _ _ _ _ _ (multiplier_same _ _ _ _ _ _ _ _ _ c.requires.w_in_bounds.1 row rows.invariant) rows.invariant
    (row_zero _ _ _ _ _ _ _ c.requires.w_le_most_side.1 c.requires.w_le_most_side.3 c.requires.m_value _ _ _ rows.invariant row c.if-by.true)
    (top_kept _ _ _ _ c.requires.fact _ row)

pub update_row-requires : goal.update_row-requires
update_row-requires c =
    let row = c.loop-r-test.true in
    record { f_le_w = omega (arith, row_end _ _ c.args.w row); apart = top_apart _ _ _ _ c.requires.fact _ row }

pub returns-then-not-update_row : goal.returns-then-not-update_row
returns-then-not-update_row c =
    let row = c.loop-r-test.true in
    let rows = c.loop-r in
    rows_stop _ _ _ _ _ _ _ c.requires.w_le_most_side.1 c.requires.w_le_most_side.3 c.requires.m_value _ _ _ _ (multiplier_same _ _ _ _ _ _ _ _ _ c.requires.w_in_bounds.1 row rows.invariant) rows.invariant
    (rw c.if-not-update_row.true at c.update_row.ensures) (top_kept _ _ _ _ c.requires.fact _ row) row

pub loop-r-preserved : goal.loop-r-preserved
loop-r-preserved c =
    let row = c.loop-r-test.true in
    let rows = c.loop-r in
    rows_more _ _ _ _ _ _ _ _ _ _ (multiplier_same _ _ _ _ _ _ _ _ _ c.requires.w_in_bounds.1 row rows.invariant) rows.invariant
    (row_is _ _ _ _ _ _ c.requires.w_le_most_side.1 _ (rw c.if-not-update_row.false at c.update_row.ensures)) (top_kept _ _ _ _ c.requires.fact _ row)

pub returns : goal.returns
returns c =
    rows_all _ _ _ _ _ _ _ c.requires.w_le_most_side.1 c.requires.w_le_most_side.3 c.requires.m_value _ _ (omega arith) c.loop-r.invariant
