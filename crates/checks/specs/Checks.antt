-- What the checks may count on: sizes in their ranges. And a record read as a task.
-- Assumes nothing.
use Rattle.std.specs.Prelude.{ℕ, ◌≤◌, ◌<◌, cond, List, [], eqb}
use Rattle.model.specs.declared.Sizes.{Sizes}
use Rattle.model.specs.declared.TaskRecord.{TaskRecord}
use Rattle.worker.specs.declared.Worker.{Worker}
use Rattle.model.specs.Limits.{most_tiles, most_side, most_workers}
use Rattle.model.specs.Task.{Task, t_1, t_2, t_3, t_4}
use Rattle.model.specs.Calls.{Lent}
use Rattle.records.specs.Records.{lent}

-- sizes that refusal 1 lets pass
pub record Sized (z : Sizes) : Type 0 where
  pub some_tiles : 1 ≤ z.tiles
  pub few_tiles : z.tiles ≤ most_tiles
  pub some_side : 1 ≤ z.side
  pub small_side : z.side ≤ most_side
  pub some_workers : 1 ≤ z.workers
  pub few_workers : z.workers ≤ most_workers

-- ---- parts of what is lent: a test that looks at no more is told no more

abbrev pub records_alone : List (List ℕ) → Lent
records_alone r = lent [] [] r [] 0 0

abbrev pub lists_alone : List ℕ → Lent
lists_alone l = lent [] l [] [] 0 0

abbrev pub held : List (List ℕ) → List Worker → ℕ → Lent
held r slots W = lent [] [] r slots W 0

abbrev pub numbered : List (List ℕ) → List Worker → ℕ → ℕ → Lent
numbered r slots W n = lent [] [] r slots W n

-- ---- a record as a task: its kind, and the fields that the kind uses

unfoldable pub task_from : TaskRecord → Task
task_from r =
    cond (eqb r.kind 1) (t_1 r.k)
    (cond (eqb r.kind 2) (t_2 r.k r.j)
    (cond (eqb r.kind 3) (t_3 r.k r.i) (t_4 r.k r.i r.j)))

-- the record's tiles are among N by N
pub record Inside (N : ℕ) (r : TaskRecord) : Type 0 where
  pub k_fits : r.k < N
  pub i_fits : r.i < N
  pub j_fits : r.j < N
