-- `update_rows` meets its contract: what the loop over rows has done is `RowsDone`. Assumes nothing.
use Prim.Native.Nat.{◌+◌, ◌*◌}
use lib.ListN.{get_or}
use lib.Ieee.{nan}
use Rattle.row_updates.proofs.Updated.{RowsDone}
use Rattle.row_updates.proofs.update_rows.Given as goal

abbrev pub invariant-loop-r : goal.invariant-loop-r
invariant-loop-r l = RowsDone l.w l.f l.start l.top (λ i. get_or l.initial.m (l.first + i * l.w) nan) l.r l.initial.m l.m
