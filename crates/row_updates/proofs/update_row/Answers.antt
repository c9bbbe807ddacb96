-- `update_row` meets its contract: what its loops have done is `RowDone`. Assumes nothing.
use native.Mathlib.Omega.{arith}
use Rattle.row_updates.proofs.Done.{done_none}
use Rattle.row_updates.proofs.Updated.{row_more, row_join, row_all, row_stop, top_clear}
use Rattle.row_updates.proofs.update_row.Goals as goal

pub loop-q-init : goal.loop-q-init
loop-q-init c = (omega arith, omega arith, done_none _ _ _ _)

pub returns-then-not-row_one : goal.returns-then-not-row_one
returns-then-not-row_one c =
    row_stop _ _ _ _ _ _ c.requires.f_le_w.0 _ _ _ _ _ c.loop-q.invariant.2 c.row_one.ensures (λ k h. top_clear _ _ _ c.requires.apart _ (omega arith) _ (omega arith)) c.loop-q.invariant.0 (omega arith) c.if-not-row_one.true

pub loop-q-preserved : goal.loop-q-preserved
loop-q-preserved c = (
  omega arith,
  omega arith,
  row_more _ _ _ _ _ _ _ c.loop-q.invariant.2 _ _ _ c.row_one.ensures c.loop-q.invariant.0 (λ k h. top_clear _ _ _ c.requires.apart _ (omega arith) _ (omega arith)) c.if-not-row_one.false,
)

pub loop-q-2-init : goal.loop-q-2-init
loop-q-2-init c = (omega arith, omega arith, omega arith, done_none _ _ _ _)

pub returns-then-not-row_four : goal.returns-then-not-row_four
returns-then-not-row_four c =
    let four = c.loop-q-2 in
    row_stop _ _ _ _ _ _ c.requires.f_le_w.0 _ _ _ _ _ (row_join _ _ _ _ _ _ _ c.loop-q.invariant.2 _ _ c.loop-q.invariant.0 four.invariant.0 (λ k g h. top_clear _ _ _ c.requires.apart _ (omega arith) _ (omega arith)) four.invariant.3)
    c.row_four.ensures (λ k h. top_clear _ _ _ c.requires.apart _ (omega arith) _ (omega arith)) (omega arith) (omega arith) c.if-not-row_four.true

pub loop-q-2-preserved : goal.loop-q-2-preserved
loop-q-2-preserved c = (
  omega arith,
  omega arith,
  omega arith,
  row_more _ _ _ _ _ _ _ c.loop-q-2.invariant.3 _ _ _ c.row_four.ensures c.loop-q-2.invariant.0 (λ k h. top_clear _ _ _ c.requires.apart _ (omega arith) _ (omega arith)) c.if-not-row_four.false,
)

pub returns : goal.returns
returns c =
    let four = c.loop-q-2 in
    row_all _ _ _ _ _ _ c.requires.f_le_w.0 _ _ (omega arith)
    (row_join _ _ _ _ _ _ _ c.loop-q.invariant.2 _ _ c.loop-q.invariant.0 four.invariant.0 (λ k g h. top_clear _ _ _ c.requires.apart _ (omega arith) _ (omega arith)) four.invariant.3)
