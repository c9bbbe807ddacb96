-- None of the tasks passed is ready. Assumes nothing.
use Prim.Native.Nat.{ℕ, ◌≤◌, ◌<◌, ◌-◌}
use mathlib.Core.Bool.{false}
use mathlib.Core.Path.{◌≡◌}
use lib.ListN.{length}
use Rattle.model.specs.Task.{tasks}
use Rattle.model.specs.Links.{ready}
use Rattle.records.specs.Records.{marks_from}
use Rattle.next_task.proofs.lowest_ready.Given as goal

abbrev pub invariant-loop-p : goal.invariant-loop-p
invariant-loop-p l = (l.p ≤ length l.records) × ((q : ℕ) → q < l.p → ready (tasks l.n) (marks_from l.records) q ≡ false)

abbrev pub decreases-loop-p : goal.decreases-loop-p
decreases-loop-p l = length l.records - l.p
