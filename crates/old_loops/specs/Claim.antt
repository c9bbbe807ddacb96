-- What document 02's K2 claims of the system told z. Assumes nothing.
use Rattle.std.specs.Prelude.{ℕ, ◌+◌, ◌-◌, ◌*◌, ◌/◌, ◌≤◌, ◌<◌, ◌≡◌, true, List, length, Float}
use Rattle.model.specs.declared.Sizes.{Sizes}
use Rattle.model.specs.Answer.{accepted}
use Rattle.model.specs.Task.{Task, tasks}
use Rattle.model.specs.Links.{links_to, link_count, latest_writers, spoils}
use Rattle.model.specs.Plan.{plan_of}
use Rattle.model.specs.Loops.{loops, outcome}
use Rattle.model.specs.Old.{old_spoils, old_loops}
use Rattle.model.specs.Calls.{Lent, state_of, all_finished}
use Rattle.model.specs.Refusal.{open_call}
use Rattle.model.specs.History.{Call}
use Rattle.demand.specs.Demand.{end}

module _ (z : Sizes) where
  abbrev N : ℕ
  N = z.tiles

  abbrev ts : List Task
  ts = tasks z.tiles

-- the tasks linked to a task are the latest writers of what it touches, at most three
pub record Links (z : Sizes) : Type 0 where
  pub writers : (q : ℕ) → q < length (ts z) → links_to (ts z) q ≡ latest_writers (ts z) q
  pub at_most_three : (q : ℕ) → q < length (ts z) → length (links_to (ts z) q) ≤ 3
  pub count : link_count (ts z) ≡ N z * (N z - 1) * (2 * N z + 1) / 2

-- any calls after an accepted opening that finish every task leave what the old loops leave, and their outcome
pub record Ends (z : Sizes) (s : Lent) (cs : List Call) : Type 0 where
  pub same : all_finished (plan_of z) (end z s cs) ≡ true → state_of (end z s cs) ≡ old_loops (plan_of z) s.buffers.matrix
  pub same_outcome : all_finished (plan_of z) (end z s cs) ≡ true
      → outcome (plan_of z) (state_of (end z s cs)) ≡ outcome (plan_of z) (old_loops (plan_of z) s.buffers.matrix)

pub record K2 (z : Sizes) : Type 0 where
  pub links : Links z
  -- the loops spoil the tasks that the old loops spoil, whatever the marks are, and end alike
  pub old_spoils_lem : (ms : List ℕ) (p : ℕ) → p < length (ts z) → spoils (ts z) ms p ≡ old_spoils (ts z) ms p
  pub old_loops_lem : (m : List Float) → loops (plan_of z) m ≡ old_loops (plan_of z) m
  pub old_ends : (s : Lent) (cs : List Call) → (open_call z s).answer ≡ accepted → Ends z s cs
