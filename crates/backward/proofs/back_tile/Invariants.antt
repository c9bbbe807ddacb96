-- The rows below i·t + r are left. Assumes nothing.
use mathlib.Core.Path.{◌≡◌}
use mathlib.Core.List.{List}
use Prim.Native.Nat.{ℕ, ◌+◌, ◌*◌}
use Rattle.model.specs.Plan.{plan_of}
use Rattle.model.specs.Solve.{going}
use Rattle.backward.specs.Rows.{back_below, back_between}
use Rattle.backward.proofs.back_tile.Given as goal

abbrev pub invariant-loop-r : goal.invariant-loop-r
invariant-loop-r l = ((lists : List ℕ) → back_below (plan_of l.z) (record { matrix = l.matrix; lists = lists }) (l.i * l.z.side + l.r) (going l.y) ≡ back_below (plan_of l.z) (record { matrix = l.matrix; lists = lists }) (l.i * l.z.side + l.z.side) (going l.initial.y))
    × ((lists : List ℕ) → going l.y ≡ back_between (plan_of l.z) (record { matrix = l.matrix; lists = lists }) (l.i * l.z.side + l.r) (l.i * l.z.side + l.z.side) (going l.initial.y))
