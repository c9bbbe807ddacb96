-- T-2(k), then T-4(k,i) for i rising. Assumes nothing.
use mathlib.Core.Path.{sym, ap, ◌∙◌}
use Rattle.std.proofs.lemmas.Result.{err_from_is_err_and}
use Rattle.model.specs.Lists.{in_turn}
use Rattle.model.specs.Task.{after}
use Rattle.model.specs.Plan.{plan}
use Rattle.progress.specs.Right.{passed_of, pair_all, stage_passed}
use Rattle.progress.proofs.Turns.{turns_stop, pairs_keep, went, halted}
use Rattle.right_sides.proofs.stage.Goals as goal

pub returns-in_err-apply : goal.returns-in_err-apply
unfolding passed_of stage_passed plan
returns-in_err-apply c =
    let p = err_from_is_err_and c.from_residual.result c.from_residual.ensures.1 in
    let e = halted _ _ _ c.apply.ensures.is _ c.in_err-apply.was in
    rw (p.1, p.2) (record {
      is = sym (turns_stop (pair_all _ _ _) (pairs_keep _ _ _) (after _ _) _) ∙ ap (in_turn (pair_all _ _ _) (after _ _)) e;
      finite_then = λ q. cc;
    })

pub returns : goal.returns
unfolding stage_passed plan
returns c =
    let e = went _ _ _ c.apply.ensures.is c.in_ok-apply.was in
    let r = c.pair_below.ensures in
    record { is = r.is ∙ ap (in_turn (pair_all _ _ _) (after _ _)) e; finite_then = r.finite_then }
