-- Each step's tiles are looked at once. Assumes nothing.
use mathlib.Core.Bool.{not}
use mathlib.Core.Path.{ap, ◌∙◌}
use Rattle.task_tiles.proofs.Laws.{tiles_1, tiles_2, tiles_3, tiles_4, tiles_5}
use Rattle.task_tiles.proofs.bad_tiles.Goals as goal
use Rattle.task_tiles.proofs.bad_tiles.Goals.{in-Factor, in-Apply, in-Couple, in-Pair+then-finite_tile, in-Pair+else-finite_tile}

pub returns : goal.returns
returns c =
    λ lists.
    let a = c.args in
    ap not (elim c.match-step_of.branch [
      | in-Factor w ↦ w.finite-is ∙ tiles_1 a.z a.matrix.now lists a.task _ w.in-Factor.ensures.same_task _ w.finite_tile-finite.ensures
      | in-Apply w ↦ w.finite-is ∙ tiles_2 a.z a.matrix.now lists a.task _ _ w.in-Apply.ensures.same_task _ w.finite_pair-finite.ensures
      | in-Couple w ↦ w.finite-is ∙ tiles_3 a.z a.matrix.now lists a.task _ _ w.in-Couple.ensures.same_task _ w.finite_pair-finite-in-Couple.ensures
      | in-Pair+then-finite_tile w ↦ w.finite-is ∙ tiles_4 a.z a.matrix.now lists a.task _ _ _ w.in-Pair.ensures.same_task _ w.finite_tile.ensures w.if-finite_tile.true _ w.finite_pair.ensures
      | in-Pair+else-finite_tile w ↦ w.finite-is ∙ tiles_5 a.z a.matrix.now lists a.task _ _ _ w.in-Pair.ensures.same_task _ w.finite_tile.ensures w.if-finite_tile.false
    ])
