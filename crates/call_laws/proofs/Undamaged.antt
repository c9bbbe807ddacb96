-- What the calls may count on once what is lent passed refusals 1, 2 and 4. Assumes nothing.
use Prim.Native.Nat.{ℕ, suc, ◌*◌, ◌≤◌, ◌<◌}
use mathlib.Core.Bool.{true, false}
use mathlib.Core.Path.{◌≡◌, ◌∙◌}
use mathlib.Core.List.{List}
use native.Mathlib.Nat.{mul-le-mul}
use native.Mathlib.Omega.{arith}
use lib.Ieee.{Float}
use lib.ListN.{length, get_or}
use Rattle.model.specs.declared.Sizes.{Sizes}
use Rattle.worker.specs.declared.Worker.{Worker}
use Rattle.model.specs.Lengths.{RecordsFit}
use Rattle.model.specs.Task.{tasks}
use Rattle.model.specs.Plan.{plan, plan_of}
use Rattle.model.specs.Links.{task, mark, taken}
use Rattle.model.specs.Calls.{marks_of, ties_of, worker}
use Rattle.worker.specs.Holding.{idle}
use Rattle.model.specs.Refusal.{damaged}
use Rattle.records.specs.Records.{records_from, marks_from, ties_from, blank, lent}
use Rattle.records.proofs.Laws.{length_records, length_crew, worker_at, no_worker_lem}
use Rattle.task_counts.proofs.Laws.{few_tasks}
use Rattle.links.proofs.Order.{Within, length_tasks, task_within}
use Rattle.marks.specs.Marks.{Recorded}
use Rattle.checks.specs.Checks.{Sized, Inside, task_from}
use Rattle.run_laws.proofs.Undamaged.{Due, Held, due_any, held, sum_held, number_most}
use Rattle.call_laws.proofs.Named.{named, inside}

-- ---- workers

module _ (m : List Float) (l : List ℕ) (r : List (List ℕ)) (ws : List Worker) (W number w : ℕ) where
  pub worker_lent : w < W → worker (lent m l r ws W number) w ≡ get_or ws w idle
  unfolding worker lent
  worker_lent h = worker_at ws W w h

  -- beyond the workers lent there is none, and it reads as idle
  pub worker_beyond : W ≤ w → worker (lent m l r ws W number) w ≡ idle
  unfolding worker lent
  worker_beyond h = no_worker_lem ws W w h

  pub workers_long : length (lent m l r ws W number).workers ≡ W
  unfolding lent
  workers_long = length_crew ws W

-- ---- records

module _ (z : Sizes) (m : List Float) (l : List ℕ) (r : List (List ℕ)) (ws : List Worker) (number : ℕ)
    (sizes : Sized z) (fit : RecordsFit z r) (fine : damaged (plan_of z) (lent m l r ws z.workers number) ≡ false) (p : ℕ) (h : p < length (tasks z.tiles)) where
  pub record_due : Due (task (tasks z.tiles) p) (get_or (records_from r) p blank)
  unfolding lent plan
  record_due = due_any (plan_of z) (lent m l r ws z.workers number) fine (length_records r ∙ fit) p blank h

  -- it is read as task p, and its tiles are among those lent
  pub record_named : task_from (get_or (records_from r) p blank) ≡ task (tasks z.tiles) p
  record_named = named (task (tasks z.tiles) p) (get_or (records_from r) p blank) record_due

  pub task_inside : Within z.tiles (task (tasks z.tiles) p)
  task_inside = let e = length_tasks z.tiles in task_within z.tiles p (omega arith)

  pub record_inside : Inside z.tiles (get_or (records_from r) p blank)
  record_inside = inside z.tiles (task (tasks z.tiles) p) (get_or (records_from r) p blank) task_inside record_due

  pub recorded : Recorded z.tiles r p
  recorded =
      let e = length_tasks z.tiles in
      record {
        small = sizes.few_tiles;
        long = fit ∙ e;
        below = omega arith;
        k_is = record_due.k_is;
        i_is = record_due.i_is;
        j_is = record_due.j_is;
      }

-- ---- the run's number

-- no task has had more than t + 1 calls
pub number_small : (z : Sizes) (m : List Float) (l : List ℕ) (r : List (List ℕ)) (ws : List Worker) (number : ℕ) → Sized z
    → damaged (plan_of z) (lent m l r ws z.workers number) ≡ false → number ≤ 25432
unfolding lent plan
number_small z m l r ws number sizes fine =
    let most : number ≤ length (tasks z.tiles) * suc z.side = number_most (plan_of z) (lent m l r ws z.workers number) fine in
    let side : suc z.side ≤ 17 = omega (arith, sizes.small_side) in
    let few : length (tasks z.tiles) * suc z.side ≤ 1496 * 17 = mul-le-mul (few_tasks z.tiles sizes.few_tiles) side in
    omega arith

-- ---- a busy worker

module _ (z : Sizes) (m : List Float) (l : List ℕ) (r : List (List ℕ)) (ws : List Worker) (number w : ℕ)
    (fine : damaged (plan_of z) (lent m l r ws z.workers number) ≡ false) (here : w < z.workers) (busy : (get_or ws w idle).busy ≡ true) where
  -- its task exists and is marked taken, and its column is below t
  pub worker_holds : ((get_or ws w idle).task < length (tasks z.tiles)) × (mark (marks_from r) (get_or ws w idle).task ≡ taken) × ((get_or ws w idle).column < z.side)
  unfolding plan marks_of lent marks_from
  worker_holds =
      let e = worker_lent m l r ws z.workers number w here in
      let h = held (plan_of z) (lent m l r ws z.workers number) fine w (rw (workers_long m l r ws z.workers number w) here) (rw e busy) in
      let k : Held (plan_of z) (lent m l r ws z.workers number) (get_or ws w idle) = rw e at h in
      (k.exists, k.is_taken, k.column_fits)

  -- and its tie sum is at most t times that column
  pub worker_ties : get_or (ties_from r) (get_or ws w idle).task 0 ≤ z.side * (get_or ws w idle).column
  unfolding plan ties_of lent ties_from
  worker_ties =
      let e = worker_lent m l r ws z.workers number w here in
      let h = sum_held (plan_of z) (lent m l r ws z.workers number) fine w (rw (workers_long m l r ws z.workers number w) here) (rw e busy) in
      rw e at h
