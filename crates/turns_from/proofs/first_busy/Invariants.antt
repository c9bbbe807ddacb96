-- None of those looked at is busy. Assumes nothing.
use Prim.Native.Nat.{◌≤◌}
use Rattle.turns_from.specs.NextBusy.{NoneBusy}
use Rattle.turns_from.proofs.first_busy.Given as goal

abbrev pub invariant-loop-v : goal.invariant-loop-v
invariant-loop-v l = (l.fn.from ≤ l.v) × NoneBusy l.fn.workers l.fn.from l.v
