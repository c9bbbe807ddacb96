-- T-4(k,i) for i rising: what is left from i on is the whole. Assumes nothing.
use mathlib.Core.Path.{◌≡◌}
use Prim.Native.Nat.{suc, ◌+◌}
use native.Mathlib.Omega.{arith}
use Rattle.std.proofs.lemmas.Result.{err_from_is_err_and}
use Rattle.model.specs.Task.{after}
use Rattle.progress.specs.Right.{passed_of}
use Rattle.progress.proofs.Turns.{left_goes, left_stops, left_ends, went, halted, pairs_keep}
use Rattle.right_sides.proofs.pair_below.Goals as goal

pub loop-i-init : goal.loop-i-init
unfolding after
loop-i-init c =
    let s : c.args.k + 1 ≡ suc c.args.k = omega arith in
    (c.requires.right_side.all_finite_lem, rw s)

pub returns-in_err-pair : goal.returns-in_err-pair
unfolding passed_of
returns-in_err-pair c =
    let p = err_from_is_err_and c.from_residual.result c.from_residual.ensures.1 in
    rw (p.1, p.2) (record {
      is = left_stops _ (pairs_keep _ _ _) _ _ _ _ _ c.loop-i.invariant.1 c.loop-i-test.true (halted _ _ _ c.pair.ensures.is _ c.in_err-pair.was);
      finite_then = λ q. cc;
    })

pub loop-i-preserved : goal.loop-i-preserved
loop-i-preserved c =
    let e = c.pair.ensures in
    let on = c.in_ok-pair.was in
    (e.finite_then on, left_goes _ (pairs_keep _ _ _) _ _ _ _ _ c.loop-i.invariant.1 c.loop-i-test.true (went _ _ _ e.is on))

pub returns : goal.returns
unfolding passed_of
returns c =
    let i = c.loop-i.invariant in
    record { is = left_ends _ (pairs_keep _ _ _) _ _ _ _ i.1 (omega arith); finite_then = λ q. i.0 }
