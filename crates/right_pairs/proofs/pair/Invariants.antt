-- All columns of T-4(k,i): what is left from column c on is the whole. Assumes nothing.
use mathlib.Core.Path.{◌≡◌}
use mathlib.Core.Bool.{true}
use Rattle.model.specs.Tile.{all_finite}
use Rattle.model.specs.Plan.{plan_of}
use Rattle.model.specs.Solve.{going, paired}
use Rattle.progress.specs.Right.{pair_all}
use Rattle.progress.proofs.Turns.{Left, paired_keeps}
use Rattle.right_pairs.proofs.pair.Given as goal

abbrev pub invariant-loop-c : goal.invariant-loop-c
invariant-loop-c l = (all_finite l.y ≡ true)
    × Left (paired (plan_of l.z) (record { matrix = l.matrix; lists = l.lists }) l.k l.i) (paired_keeps (plan_of l.z) (record { matrix = l.matrix; lists = l.lists }) l.k l.i) l.z.side l.c
    (pair_all (plan_of l.z) (record { matrix = l.matrix; lists = l.lists }) l.k l.i (going l.initial.y)) l.c l.y
