-- `update_row` meets its contract: what its loops have done is `RowDone`. Assumes nothing.
use mathlib.Core.Path.{◌≡◌}
use Prim.Native.Nat.{◌-◌, ◌%◌, ◌≤◌}
use Rattle.row_updates.proofs.Updated.{RowDone}
use Rattle.row_updates.proofs.update_row.Given as goal

abbrev pub invariant-loop-q : goal.invariant-loop-q
invariant-loop-q l = (l.f ≤ l.q) × (l.q ≤ l.fours) × RowDone l.f l.at l.top l.by l.q l.initial.m l.m

abbrev pub decreases-loop-q : goal.decreases-loop-q
decreases-loop-q l = l.fours - l.q

abbrev pub invariant-loop-q-2 : goal.invariant-loop-q-2
invariant-loop-q-2 l = (l.initial.q ≤ l.q) × (l.q ≤ l.w) × ((l.w - l.q) % 4 ≡ 0) × RowDone l.initial.q l.at l.top l.by l.q l.initial.m l.m

abbrev pub decreases-loop-q-2 : goal.decreases-loop-q-2
decreases-loop-q-2 l = l.w - l.q
