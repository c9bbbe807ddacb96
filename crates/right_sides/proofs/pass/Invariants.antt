-- The stages in turn are the tasks in number order. Assumes nothing.
use mathlib.Core.Path.{◌≡◌}
use mathlib.Core.Bool.{true}
use Rattle.model.specs.Lists.{in_turn}
use Rattle.model.specs.Tile.{all_finite}
use Rattle.model.specs.Task.{tasks}
use Rattle.model.specs.Plan.{plan_of}
use Rattle.model.specs.Solve.{going, pass}
use Rattle.progress.specs.Right.{stage_passed}
use Rattle.progress.proofs.Turns.{Left, stage_keeps}
use Rattle.right_sides.proofs.pass.Given as goal

abbrev pub invariant-loop-k : goal.invariant-loop-k
invariant-loop-k l = (all_finite l.y ≡ true)
    × Left (stage_passed (plan_of l.z) (record { matrix = l.matrix; lists = l.lists })) (stage_keeps (plan_of l.z) (record { matrix = l.matrix; lists = l.lists })) l.z.tiles l.k
    (in_turn (pass (plan_of l.z) (record { matrix = l.matrix; lists = l.lists })) (tasks l.z.tiles) (going l.initial.y)) l.k l.y
