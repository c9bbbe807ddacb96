-- The stages in turn are the tasks in number order. Assumes nothing.
use mathlib.Core.Path.{sym, ◌∙◌}
use native.Mathlib.Omega.{arith}
use Rattle.std.proofs.lemmas.Result.{err_from_is_err_and}
use Rattle.model.specs.Plan.{plan}
use Rattle.progress.specs.Right.{passed_of}
use Rattle.progress.proofs.Turns.{left_begins, left_goes, left_stops, left_ends, went, halted, stage_keeps, tasks_are}
use Rattle.right_sides.proofs.pass.Goals as goal

pub loop-k-init : goal.loop-k-init
unfolding plan
loop-k-init c = (c.requires.right_side.all_finite_lem, left_begins _ _ _ ∙ sym (tasks_are _ _ _))

pub returns-in_err-stage-clause-passing : goal.returns-in_err-stage-clause-passing
unfolding passed_of
returns-in_err-stage-clause-passing c =
    let p = err_from_is_err_and c.from_residual.result c.from_residual.ensures.1 in
    rw (p.1, p.2) (record {
      is = left_stops _ (stage_keeps _ _) _ _ _ _ _ c.loop-k.invariant.1 c.loop-k-test.true (halted _ _ _ c.stage.ensures.is _ c.in_err-stage.was);
      finite_then = λ q. cc;
    })

pub loop-k-preserved : goal.loop-k-preserved
loop-k-preserved c =
    let e = c.stage.ensures in
    let on = c.in_ok-stage.was in
    (e.finite_then on, left_goes _ (stage_keeps _ _) _ _ _ _ _ c.loop-k.invariant.1 c.loop-k-test.true (went _ _ _ e.is on))

pub returns-clause-passing : goal.returns-clause-passing
unfolding passed_of
returns-clause-passing c =
    let i = c.loop-k.invariant in
    record { is = left_ends _ (stage_keeps _ _) _ _ _ _ i.1 (omega arith); finite_then = λ q. i.0 }
