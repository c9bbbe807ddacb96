-- What is left from tile j on is the whole. Assumes nothing.
use mathlib.Core.Path.{◌≡◌}
use mathlib.Core.List.{List}
use Prim.Native.Nat.{ℕ, suc, ◌+◌, ◌-◌, ◌*◌}
use Rattle.model.specs.Lists.{run}
use Rattle.model.specs.Plan.{plan}
use Rattle.model.specs.Solve.{row_left}
use Rattle.subtractions.proofs.subtract_tiles.Given as goal

abbrev pub invariant-loop-j : goal.invariant-loop-j
invariant-loop-j l = (lists : List ℕ) → row_left (plan l.n l.t) (record { matrix = l.matrix; lists = lists }) (l.i * l.t + l.r) l.y (run (l.j * l.t) (l.n * l.t - l.j * l.t)) l.left
    ≡ row_left (plan l.n l.t) (record { matrix = l.matrix; lists = lists }) (l.i * l.t + l.r) l.y (run (suc l.i * l.t) (l.n * l.t - suc l.i * l.t)) l.d
