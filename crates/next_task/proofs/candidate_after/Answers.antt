-- Nothing is passed over but the rest of a row whose first task hasn't finished. Assumes nothing.
use native.Mathlib.Omega.{arith}
use Rattle.next_task.proofs.Passed.{row_ends, row_passed}
use Rattle.next_task.proofs.candidate_after.Goals as goal

pub overflow_sub-result : goal.overflow_sub-result
overflow_sub-result c =
    omega (arith, row_ends _ _ _ c.requires _ c.record_at-r.ensures c.if-r-eq0.true)

pub returns-then-not-is_finished : goal.returns-then-not-is_finished
returns-then-not-is_finished c =
    row_passed _ _ _ c.requires _ c.record_at-r.ensures
    c.if-r-eq0.true _ c.is_finished.ensures c.if-not-is_finished.true
