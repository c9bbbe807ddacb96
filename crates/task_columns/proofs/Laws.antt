-- A column of a task that is spoiled or not. Assumes nothing.
use Prim.Native.Nat.{ℕ}
use mathlib.Core.Bool.{Bool, true, false, ◌&&◌}
use mathlib.Core.Path.{◌≡◌, sym, ap, ◌∙◌}
use mathlib.Core.List.{List}
use lib.Dec.{eqb}
use lib.Ieee.{Float}
use Rattle.model.specs.declared.Sizes.{Sizes}
use Rattle.model.specs.declared.ColumnEnd.TheVariants.{Spoiled}
use Rattle.model.specs.declared.TaskRecord.{TaskRecord}
use Rattle.worker.specs.declared.Worker.{Worker}
use Rattle.model.specs.Task.{tasks}
use Rattle.model.specs.Plan.{plan, plan_of}
use Rattle.model.specs.Links.{task, spoils}
use Rattle.model.specs.Buffer.{Buffers, Ended, ended_with, filled, column_ends}
use Rattle.model.specs.Calls.{Lent, marks_of, column_of}
use Rattle.records.specs.Records.{marks_from, lent}
use Rattle.checks.specs.Checks.{task_from}

module _ (z : Sizes) (m : List Float) (l : List ℕ) (r : List (List ℕ)) (ws : List Worker) (number p c : ℕ) where
  abbrev s : Lent
  s = lent m l r ws z.workers number

  abbrev buffers : Buffers
  buffers = record { matrix = m; lists = l }

  module _ (a : TaskRecord) (named : task_from a ≡ task (tasks z.tiles) p) (b : Bool) (e : b ≡ (eqb c 0 && spoils (tasks z.tiles) (marks_from r) p)) where
    pub task_spoiled : b ≡ true → (left : Buffers) → left ≡ filled (plan_of z) (task_from a) buffers → ended_with Spoiled left ≡ column_of (plan_of z) s p c
    unfolding column_of marks_of lent marks_from plan
    task_spoiled q left g =
        rw (sym e ∙ q, column_of) (λ x. ended_with Spoiled ((g ∙ ap (λ y. filled (plan_of z) y buffers) named) x))

    pub task_worked : b ≡ false → (end : Ended) → end ≡ column_ends (plan_of z) (task_from a) c buffers → end ≡ column_of (plan_of z) s p c
    unfolding column_of marks_of lent marks_from plan
    task_worked q end g = rw (sym e ∙ q, column_of) (g ∙ ap (λ y. column_ends (plan_of z) y c buffers) named)
