-- `update_column` meets its contract: what its loops have done is `ColumnDone`. Assumes nothing.
use native.Mathlib.Omega.{arith}
use lib.ListN.{get_or}
use lib.Ieee.{nan}
use Rattle.row_updates.proofs.Done.{done_none, done_at}
use Rattle.row_updates.proofs.Column.{column_more, column_join, column_all, column_stop, place_one, place_more}
use Rattle.row_updates.proofs.update_column.Goals as goal

pub returns-then-not-column_one : goal.returns-then-not-column_one
returns-then-not-column_one c =
    column_stop _ _ c.args.top c.args.first c.args.stride c.args.l.now _ c.requires.rows_le_most_side.1 c.requires.y_value _ _ _ _ _ _ c.loop-r.invariant.2 (place_one _ _ _) c.column_one.ensures (omega arith)
    c.if-not-column_one.true

pub loop-r-preserved : goal.loop-r-preserved
loop-r-preserved c =
    let l = c.loop-r in
    (l.invariant.0, l.invariant.1, column_more _ _ c.args.first c.args.stride (get_or c.args.y.now c.args.top nan) c.args.l.now _ _ _ l.invariant.2 _ _ (place_one _ _ _) _ _ c.column_one.ensures (omega arith) c.if-not-column_one.false)

pub loop-r-2-init : goal.loop-r-2-init
loop-r-2-init c = (c.loop-r.invariant.0, c.loop-r.invariant.1, done_none _ _ _ _)

pub returns-then-not-column_four : goal.returns-then-not-column_four
returns-then-not-column_four c =
    column_stop _ _ c.args.top c.args.first c.args.stride c.args.l.now _ c.requires.rows_le_most_side.1 c.requires.y_value _ _ _ _ _ _ (column_join _ _ c.args.first c.args.stride (get_or c.args.y.now c.args.top nan) c.args.l.now _ _ _ (done_at _ _ _ _ _ _ _ (omega arith) c.loop-r.invariant.2) _ _ (omega arith) (omega arith) c.loop-r-2.invariant.2) (place_more _ _ _ _)
    c.column_four.ensures (omega arith) c.if-not-column_four.true

pub loop-r-2-preserved : goal.loop-r-2-preserved
loop-r-2-preserved c =
    let l = c.loop-r-2 in (
      omega arith,
      omega arith,
      column_more _ _ c.args.first c.args.stride (get_or c.args.y.now c.args.top nan) c.args.l.now _ _ _ l.invariant.2 _ _ (place_more _ _ _ _) _ _ c.column_four.ensures (omega arith) c.if-not-column_four.false,
    )

pub returns-after-rows-lt8 : goal.returns-after-rows-lt8
returns-after-rows-lt8 c =
    column_all _ _ c.args.top c.args.first c.args.stride c.args.l.now _ c.requires.rows_le_most_side.1 c.requires.y_value _ _ (omega arith) (column_join _ _ c.args.first c.args.stride (get_or c.args.y.now c.args.top nan) c.args.l.now _ _ _ (done_at _ _ _ _ _ _ _ (omega arith) c.loop-r.invariant.2) _ _ (omega arith) (omega arith) c.loop-r-2.invariant.2)

pub returns-else-not-column_four : goal.returns-else-not-column_four
returns-else-not-column_four c =
    let l = c.loop-r-2 in
    column_all _ _ c.args.top c.args.first c.args.stride c.args.l.now _ c.requires.rows_le_most_side.1 c.requires.y_value _ _ (omega arith) (column_join _ _ c.args.first c.args.stride (get_or c.args.y.now c.args.top nan) c.args.l.now _ _ _ (done_at _ _ _ _ _ _ _ (omega arith) c.loop-r.invariant.2) _ _ (omega arith) (omega arith)
    (column_more _ _ c.args.first c.args.stride (get_or c.args.y.now c.args.top nan) c.args.l.now _ _ _ l.invariant.2 _ _ (place_more _ _ _ _) _ _ c.column_four.ensures (omega arith) c.if-not-column_four.false))
