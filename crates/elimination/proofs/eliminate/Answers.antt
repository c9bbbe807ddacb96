-- `eliminate` meets its contract: what the loop over rows has done is `RowsGone`. Assumes nothing.
use mathlib.Core.Path.{refl}
use native.Mathlib.Omega.{arith}
use lib.Ieee.{of_bits}
use Rattle.model.specs.Num.{quotient, is_zero}
use Rattle.row_updates.proofs.Updated.{row_unchanged, row_is}
use Rattle.elimination.proofs.Eliminated.{gone_none, divided_finite, row_finite, gone_more, all_gone, gone_stop}
use Rattle.elimination.proofs.eliminate.Goals as goal

pub loop-r-init : goal.loop-r-init
loop-r-init c = gone_none _ _ _ _ _ _

pub loop-r-preserved-then-by : goal.loop-r-preserved-then-by
unfolding of_bits is_zero quotient
loop-r-preserved-then-by c =
    let b = c.requires.rows in
    let rows = c.loop-r in
    let row = c.loop-r-test.true in
    gone_more _ _ _ _ _ b.column _ b.room b.apart _ row _ rows.invariant _ refl _
    (row_unchanged _ _ _ _ _ _ c.if-by.true
    (divided_finite _ _ _ _ _ b.column _ b.room b.apart _ row _ rows.invariant _ refl (λ q l. row_finite _ _ _ _ _ b.column _ b.room b.apart c.requires.m_value c.requires.by_index _ q row l) (c.requires.by_index _ row)))

pub returns-then-not-update_row : goal.returns-then-not-update_row
unfolding quotient
returns-then-not-update_row c =
    let b = c.requires.rows in
    gone_stop _ _ _ _ _ b.column _ b.room b.apart c.requires.m_value c.requires.by_index _ c.loop-r-test.true _ c.loop-r.invariant _ refl _ (rw c.if-not-update_row.true at c.update_row.ensures)

pub loop-r-preserved : goal.loop-r-preserved
unfolding quotient
loop-r-preserved c =
    let b = c.requires.rows in
    gone_more _ _ _ _ _ b.column _ b.room b.apart _ c.loop-r-test.true _ c.loop-r.invariant _ refl _ (row_is _ _ _ _ _ _ (omega arith) _ (rw c.if-not-update_row.false at c.update_row.ensures))

pub returns : goal.returns
returns c =
    let b = c.requires.rows in
    all_gone _ _ _ _ _ b.column _ b.room b.apart c.requires.m_value c.requires.by_index _ _ (omega arith) c.loop-r.invariant
