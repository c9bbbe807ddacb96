-- What the turns of a run need, from any of them on: n calls are made, the turn is worker w's, and below `from` no task is ready.
-- Assumes nothing.
use Rattle.std.specs.Prelude.{ℕ, ◌≤◌, ◌<◌, false, ◌≡◌, List, Float, length}
use Rattle.model.specs.declared.Sizes.{Sizes}
use Rattle.worker.specs.declared.Workers.{Workers}
use Rattle.model.specs.Answer.{accepted}
use Rattle.model.specs.Task.{tasks}
use Rattle.model.specs.Links.{ready}
use Rattle.model.specs.Refusal.{run_answer}
use Rattle.records.specs.Records.{marks_from, all_lent}

pub record Underway (z : Sizes) (budget : ℕ) (m : List Float) (l : List ℕ) (r : List (List ℕ)) (ws : Workers) (n w from : ℕ) : Type 0 where
  pub accepted : run_answer z (all_lent m l r ws) ≡ accepted
  pub none : (q : ℕ) → q < from → ready (tasks z.tiles) (marks_from r) q ≡ false
  pub reached : from ≤ length r
  pub turn_of : w < z.workers
  pub within : n ≤ budget
