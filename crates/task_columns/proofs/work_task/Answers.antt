-- Spoiled and filled, or worked. Assumes nothing.
use mathlib.Core.Path.{ap, ◌∙◌}
use Rattle.checks.specs.Checks.{task_from}
use Rattle.task_columns.proofs.Laws.{task_spoiled, task_worked}
use Rattle.task_columns.proofs.work_task.Goals as goal

pub returns-then-spoiled_at : goal.returns-then-spoiled_at
returns-then-spoiled_at c =
    λ slots number. task_spoiled c.args.z _ _ _ slots number _ _ _ (ap task_from c.record_at-task.ensures ∙ c.requires.named) _ c.spoiled_at.ensures c.if-spoiled_at.true _ c.fill_task.ensures

pub returns : goal.returns
returns c =
    λ slots number. task_worked c.args.z _ _ _ slots number _ _ _ (ap task_from c.record_at-task.ensures ∙ c.requires.named) _ c.spoiled_at.ensures c.if-spoiled_at.false _ c.work_column.ensures
