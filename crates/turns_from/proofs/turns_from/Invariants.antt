-- The invariant: what is left to do from here ends as all from the first turn on. A turn of the loop is a call, of this worker or of the next busy one.
-- Assumes nothing.
use Prim.Native.Nat.{◌-◌}
use Rattle.model.specs.Plan.{plan_of}
use Rattle.model.specs.Calls.{run_from}
use Rattle.records.specs.Records.{lent}
use Rattle.turns_from.proofs.Going.{Going}
use Rattle.turns_from.proofs.turns_from.Given as goal

abbrev pub invariant-loop-n : goal.invariant-loop-n
invariant-loop-n l = Going l.z l.budget (run_from (plan_of l.z) l.z.workers (l.budget - l.initial.n) l.initial.n l.initial.w (lent l.initial.matrix l.initial.lists l.initial.records l.initial.left l.z.workers l.initial.number)) l.initial.left l.matrix l.lists l.records l.left l.number l.n l.w l.from
