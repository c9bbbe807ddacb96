-- What a column needs of the worker that does it, and what it leaves. Refusals 1, 2, 4 and 5 give it to the calls. Assumes nothing.
use Rattle.std.specs.Prelude.{ℕ, suc, ◌<◌, ◌≡◌, true, cond, List, Float, get_or}
use Rattle.model.specs.declared.Sizes.{Sizes}
use Rattle.model.specs.declared.ColumnEnd.{ColumnEnd}
use Rattle.worker.specs.declared.Worker.{Worker}
use Rattle.model.specs.Task.{tasks}
use Rattle.model.specs.Plan.{plan_of}
use Rattle.model.specs.Links.{task, finished}
use Rattle.model.specs.Buffer.{mark_after, ties_after, ended_with, finite_tiles}
use Rattle.model.specs.Calls.{with_column, changed, column_of}
use Rattle.worker.specs.Holding.{idle, holding}
use Rattle.records.specs.Records.{records_from, lent}
use Rattle.states.specs.States.{Undamaged}

-- what the column of worker h leaves, which is worker w, by call `number`, for any slots beside it: the buffers and the task's record as its column makes them,
-- and the worker h'
pub record Advanced (z : Sizes) (h : Worker) (w number : ℕ) (m : List Float) (l : List ℕ) (r : List (List ℕ)) (m' : List Float) (l' : List ℕ) (r' : List (List ℕ)) (h' : Worker) : Type 0 where
  pub end : ColumnEnd
  pub ends : (slots : List Worker) (before : ℕ) → ended_with end (record { matrix = m'; lists = l' }) ≡ column_of (plan_of z) (lent m l r slots z.workers before) h.task h.column
  pub records : records_from r' ≡ changed h.task (with_column w number (mark_after end) (ties_after end)) (records_from r)
  pub worker : h' ≡ cond (finished (mark_after end)) idle (holding h.task (suc h.column))

-- worker w is busy in an undamaged state, and the tiles that its task touches are finite
pub record Working (z : Sizes) (w : ℕ) (m : List Float) (l : List ℕ) (r : List (List ℕ)) (ws : List Worker) (number : ℕ) : Type 0 where
  pub sound : Undamaged z m l r ws number
  pub exists : w < z.workers
  pub busy : (get_or ws w idle).busy ≡ true
  pub tiles_finite : finite_tiles (plan_of z) (task (tasks z.tiles) (get_or ws w idle).task) (record { matrix = m; lists = l }) ≡ true
