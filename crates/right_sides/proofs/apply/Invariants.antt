-- All columns of T-2(k): what is left from column c on is the whole. Assumes nothing.
use mathlib.Core.Path.{◌≡◌}
use mathlib.Core.Bool.{true}
use Rattle.model.specs.Tile.{all_finite}
use Rattle.model.specs.Plan.{plan_of}
use Rattle.model.specs.Solve.{going, applied}
use Rattle.progress.specs.Right.{apply_all}
use Rattle.progress.proofs.Turns.{Left, applied_keeps}
use Rattle.right_sides.proofs.apply.Given as goal

abbrev pub invariant-loop-c : goal.invariant-loop-c
invariant-loop-c l = (all_finite l.y ≡ true)
    × Left (applied (plan_of l.z) (record { matrix = l.matrix; lists = l.lists }) l.k) (applied_keeps (plan_of l.z) (record { matrix = l.matrix; lists = l.lists }) l.k) l.z.side l.c
    (apply_all (plan_of l.z) (record { matrix = l.matrix; lists = l.lists }) l.k (going l.initial.y)) l.c l.y
