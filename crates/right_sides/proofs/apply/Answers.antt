-- All columns of T-2(k): what is left from column c on is the whole. Assumes nothing.
use native.Mathlib.Omega.{arith}
use Rattle.model.specs.Plan.{plan}
use Rattle.progress.specs.Right.{passed_of, apply_all}
use Rattle.progress.proofs.Turns.{left_begins, left_goes, left_stops, left_ends, applied_keeps}
use Rattle.right_sides.proofs.apply.Goals as goal

pub loop-c-init : goal.loop-c-init
unfolding apply_all plan
loop-c-init c = (c.requires.right_side.all_finite_lem, left_begins _ _ _)

pub returns-then-not-apply_right_column : goal.returns-then-not-apply_right_column
unfolding passed_of
returns-then-not-apply_right_column c =
    record {
      is = left_stops _ (applied_keeps _ _ _) _ _ _ _ _ c.loop-c.invariant.1 c.loop-c-test.true (c.apply_right_column.ensures.stops c.if-not-apply_right_column.true);
      finite_then = λ q. cc;
    }

pub loop-c-preserved : goal.loop-c-preserved
loop-c-preserved c =
    let e = c.apply_right_column.ensures in
    let on = c.if-not-apply_right_column.false in
    (e.finite_then on, left_goes _ (applied_keeps _ _ _) _ _ _ _ _ c.loop-c.invariant.1 c.loop-c-test.true (e.goes on))

pub returns : goal.returns
unfolding passed_of
returns c =
    let i = c.loop-c.invariant in
    record { is = left_ends _ (applied_keeps _ _ _) _ _ _ _ i.1 (omega arith); finite_then = λ q. i.0 }
