-- T-4(k,i) for i rising: what is left from i on is the whole. Assumes nothing.
use mathlib.Core.Path.{◌≡◌}
use mathlib.Core.Bool.{true}
use Rattle.model.specs.Lists.{in_turn}
use Rattle.model.specs.Tile.{all_finite}
use Rattle.model.specs.Task.{after}
use Rattle.model.specs.Plan.{plan_of}
use Rattle.model.specs.Solve.{going}
use Rattle.progress.specs.Right.{pair_all}
use Rattle.progress.proofs.Turns.{Left, pairs_keep}
use Rattle.right_sides.proofs.pair_below.Given as goal

abbrev pub invariant-loop-i : goal.invariant-loop-i
invariant-loop-i l = (all_finite l.y ≡ true)
    × Left (pair_all (plan_of l.z) (record { matrix = l.matrix; lists = l.lists }) l.k) (pairs_keep (plan_of l.z) (record { matrix = l.matrix; lists = l.lists }) l.k) l.z.tiles l.i
    (in_turn (pair_all (plan_of l.z) (record { matrix = l.matrix; lists = l.lists }) l.k) (after l.z.tiles l.k) (going l.initial.y)) l.i l.y
