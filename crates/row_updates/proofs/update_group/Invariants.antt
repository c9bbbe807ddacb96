-- `update_group` meets its contract: the numbers below k are stored and tested. Assumes nothing.
use Prim.Native.Nat.{◌+◌}
use lib.ListN.{get_or}
use lib.Ieee.{nan}
use Rattle.model.specs.Num.{update}
use Rattle.row_updates.specs.Updates.{NumbersStored}
use Rattle.row_updates.proofs.update_group.Given as goal

abbrev pub invariant-loop-k : goal.invariant-loop-k
invariant-loop-k g l = NumbersStored l.k l.p (λ k. update (get_or l.initial.m (l.p + k) nan) (get_or l.by k nan) (get_or l.upper k nan)) l.initial.m l.m l.good
