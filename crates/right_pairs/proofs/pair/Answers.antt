-- All columns of T-4(k,i): what is left from column c on is the whole. Assumes nothing.
use native.Mathlib.Omega.{arith}
use Rattle.model.specs.Plan.{plan}
use Rattle.progress.specs.Right.{passed_of, pair_all}
use Rattle.progress.proofs.Turns.{left_begins, left_goes, left_stops, left_ends, paired_keeps}
use Rattle.right_pairs.proofs.pair.Goals as goal

pub loop-c-init : goal.loop-c-init
unfolding pair_all plan
loop-c-init c = (c.requires.right_side.all_finite_lem, left_begins _ _ _)

pub returns-then-not-pair_right_column : goal.returns-then-not-pair_right_column
unfolding passed_of
returns-then-not-pair_right_column c =
    let i = c.loop-c.invariant in
    record {
      is = left_stops _ (paired_keeps _ _ _ _) _ _ _ _ _ i.1 c.loop-c-test.true (c.pair_right_column.ensures.stops c.if-not-pair_right_column.true);
      finite_then = λ q. cc;
    }

pub loop-c-preserved : goal.loop-c-preserved
loop-c-preserved c =
    let i = c.loop-c.invariant in
    let e = c.pair_right_column.ensures in
    let on = c.if-not-pair_right_column.false in
    (e.finite_then on, left_goes _ (paired_keeps _ _ _ _) _ _ _ _ _ i.1 c.loop-c-test.true (e.goes on))

pub returns : goal.returns
unfolding passed_of
returns c =
    let i = c.loop-c.invariant in
    record { is = left_ends _ (paired_keeps _ _ _ _) _ _ _ _ i.1 (omega arith); finite_then = λ q. i.0 }
