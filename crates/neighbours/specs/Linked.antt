-- What the functions ask of their callers, and the marks of the tasks linked to a task. Assumes nothing.
use Rattle.std.specs.Prelude.{ℕ, ◌≤◌, List, ◌≡◌, length}
use Rattle.model.specs.Limits.{most_tiles}
use Rattle.model.specs.Task.{task_count}
use Rattle.links.specs.Closed.{Key, In, number, key_at, back_mark, above_mark, left_mark}
use Rattle.neighbours.specs.declared.LinkMarks.{LinkMarks}

-- task p has the triple b, and there is one record for each task
pub record Placed (n : ℕ) (records : List (List ℕ)) (p : ℕ) (b : Key) : Type 0 where
  pub small : n ≤ most_tiles
  pub long : length records ≡ task_count n
  pub inside : In n b
  pub number_is : number n b ≡ p

-- done where there is none
unfoldable pub link_marks : ℕ → List ℕ → ℕ → LinkMarks
link_marks n ms p = record { back = back_mark n ms (key_at n p); above = above_mark n ms (key_at n p); left = left_mark n ms (key_at n p) }
