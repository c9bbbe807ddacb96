-- What a column needs of the task it belongs to. Refusals 1, 2 and 4 give it to the calls. Assumes nothing.
use Rattle.std.specs.Prelude.{ℕ, ◌*◌, ◌≤◌, ◌≡◌, List, Float, get_or}
use Rattle.model.specs.declared.Sizes.{Sizes}
use Rattle.model.specs.Task.{tasks}
use Rattle.model.specs.Links.{task}
use Rattle.marks.specs.Marks.{Recorded}
use Rattle.column_laws.specs.Workable.{Workable}
use Rattle.records.specs.Records.{records_from, ties_from, blank}
use Rattle.checks.specs.Checks.{Sized, Inside, task_from}

-- column c of task p can be worked: the task's record names it
pub record ColumnDue (z : Sizes) (p c : ℕ) (m : List Float) (l : List ℕ) (r : List (List ℕ)) : Type 0 where
  pub sizes : Sized z
  pub workable : Workable z (task (tasks z.tiles) p) c m l
  pub recorded : Recorded z.tiles r p
  pub named : task_from (get_or (records_from r) p blank) ≡ task (tasks z.tiles) p
  pub inside : Inside z.tiles (get_or (records_from r) p blank)
  pub few_ties : get_or (ties_from r) p 0 ≤ z.side * c
