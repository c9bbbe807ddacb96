-- The triple kept beside p is that of task p; what is left to search gives the whole search's answer, and the calls are the sum of the limits so far.
-- Assumes nothing.
use Prim.Native.Nat.{ℕ, suc, ◌-◌, ◌*◌, ◌≤◌, ◌<◌}
use mathlib.Core.Path.{◌≡◌}
use mathlib.Core.List.{map}
use lib.ListN.{length}
use Rattle.model.specs.Task.{tasks}
use Rattle.model.specs.Plan.{plan_of}
use Rattle.model.specs.Links.{task}
use Rattle.model.specs.Calls.{record_of}
use Rattle.model.specs.Refusal.{call_limit}
use Rattle.model.specs.Lists.{run, below, some, total}
use Rattle.links.specs.Closed.{key, In, number}
use Rattle.damage.specs.Named.{name_of}
use Rattle.damage.proofs.Laws.{state, bad}
use Rattle.damage.proofs.bad_records.Given as goal

abbrev pub invariant-loop-p : goal.invariant-loop-p
invariant-loop-p l = (number l.z.tiles (key l.a.k l.a.i l.a.j) ≡ l.p) × (l.p < l.count → In l.z.tiles (key l.a.k l.a.i l.a.j))
    × (some (bad l.z l.records l.workers l.number) (run l.p (l.count - l.p)) ≡ some (bad l.z l.records l.workers l.number) (below (length (tasks l.z.tiles))))
    × (l.calls ≡ total (map (call_limit (plan_of l.z) (state l.z l.records l.workers l.number)) (below l.p))) × (l.calls ≤ l.p * 8161)
    × ((q : ℕ) → suc q ≡ l.p → l.due ≡ name_of (record_of (task (tasks l.z.tiles) q)))
