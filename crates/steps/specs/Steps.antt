-- The task that asks for a step, and a step's tiles. Assumes nothing.
use Rattle.std.specs.Prelude.{ℕ, ◌<◌}
use Rattle.model.specs.Task.{Task, t_1, t_2, t_3, t_4}
use Rattle.steps.specs.declared.Step.{Step}
use Rattle.steps.specs.declared.Step.TheVariants.{Factor, Apply, Couple, Pair}

abbrev pub task_asking : Step → Task
task_asking (Factor k) = t_1 k
task_asking (Apply k j) = t_2 k j
task_asking (Couple k i) = t_3 k i
task_asking (Pair k i j) = t_4 k i j

-- the step's tiles are among n by n
abbrev pub InsideOf : ℕ → Step → Type 0
InsideOf n (Factor k) = k < n
InsideOf n (Apply k j) = (k < n) × (j < n)
InsideOf n (Couple k i) = (k < n) × (i < n)
InsideOf n (Pair k i j) = (k < n) × (i < n) × (j < n)
