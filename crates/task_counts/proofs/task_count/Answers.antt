-- The closed form is the length of the list of tasks, and nothing in it wraps. Assumes nothing.
use Rattle.task_counts.proofs.Laws.{length_tasks}
use Rattle.task_counts.proofs.task_count.Goals as goal

pub returns : goal.returns
returns c =
    length_tasks _
