-- What the functions that read a task's record ask of their callers. Assumes nothing.
use Rattle.std.specs.Prelude.{ℕ, ◌≤◌, ◌<◌, List, ◌≡◌, length, get_or}
use Rattle.model.specs.Limits.{most_tiles}
use Rattle.model.specs.Task.{tasks, task_count, k_of, i_of, j_of}
use Rattle.model.specs.Links.{task}
use Rattle.records.specs.Records.{records_from, blank}

-- one record for each task, and record p has the indices of task p
pub record Recorded (n : ℕ) (records : List (List ℕ)) (p : ℕ) : Type 0 where
  pub small : n ≤ most_tiles
  pub long : length records ≡ task_count n
  pub below : p < task_count n
  pub k_is : (get_or (records_from records) p blank).k ≡ k_of (task (tasks n) p)
  pub i_is : (get_or (records_from records) p blank).i ≡ i_of (task (tasks n) p)
  pub j_is : (get_or (records_from records) p blank).j ≡ j_of (task (tasks n) p)
