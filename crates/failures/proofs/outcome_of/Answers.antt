-- The lowest failed task, else the lowest zero row, else neither. Assumes nothing.
use native.Mathlib.Omega.{arith}
use Rattle.records.proofs.Laws.{length_marks}
use Rattle.task_counts.proofs.Laws.{few_tasks}
use Rattle.checks.proofs.Laws.{small}
use Rattle.failures.proofs.Laws.{outcome_failed, outcome_zero, outcome_good, zero_below, failed_below}
use Rattle.failures.proofs.outcome_of.Goals as goal

pub overflow_cast-result : goal.overflow_cast-result
overflow_cast-result c =
    omega (arith, failed_below _ _ _ c.first_failed-task.ensures c.in-Some.is, length_marks c.args.records.now, few_tasks _ c.requires.0.few_tiles)

pub returns-in-Some : goal.returns-in-Some
returns-in-Some c =
    λ lists. outcome_failed c.args.z _ lists _ _ _ _ c.first_failed-task.ensures c.in-Some.is

pub overflow_cast-result-in-Some-row : goal.overflow_cast-result-in-Some-row
overflow_cast-result-in-Some-row c =
    omega (arith, zero_below c.args.z _ _ _ c.first_zero_row-row.ensures c.in-Some-row.is, small _ _ c.requires.0.few_tiles c.requires.0.small_side)

pub returns-in-Some-row : goal.returns-in-Some-row
returns-in-Some-row c =
    λ lists. outcome_zero c.args.z _ lists _ _ _ c.first_failed-task.ensures c.in_default.is
    _ _ c.first_zero_row-row.ensures c.in-Some-row.is

pub returns-in-None : goal.returns-in-None
returns-in-None c =
    λ lists. outcome_good c.args.z _ lists _ _ _ c.first_failed-task.ensures c.in_default.is
    _ c.first_zero_row-row.ensures c.in-None.is
