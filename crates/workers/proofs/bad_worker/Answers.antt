-- An idle worker holds nothing; a busy one's task, mark and column are tested in turn. Assumes nothing.
use borrow.Author.Tests.{not-true, not-false}
use Rattle.workers.proofs.Laws.{worker_idle, worker_lost, worker_unmarked, worker_column}
use Rattle.workers.proofs.bad_worker.Goals as goal

pub returns-then-not-h : goal.returns-then-not-h
returns-then-not-h c =
    worker_idle c.args.z _ c.args.h (not-true _ c.if-not-h.true)

pub returns-then-task_count-p : goal.returns-then-task_count-p
returns-then-task_count-p c =
    worker_lost c.args.z _ c.args.h (not-false _ c.if-not-h.false) _ c.task_count.ensures c.if-task_count-p.true

pub returns-then-mark_of-ne-TAKEN : goal.returns-then-mark_of-ne-TAKEN
returns-then-mark_of-ne-TAKEN c =
    worker_unmarked c.args.z _ c.args.h (not-false _ c.if-not-h.false) _ c.task_count.ensures c.if-task_count-p.false _ c.mark_of.ensures c.if-mark_of-ne-TAKEN.true

pub returns : goal.returns
returns c =
    worker_column c.args.z _ c.args.h (not-false _ c.if-not-h.false) _ c.task_count.ensures c.if-task_count-p.false _ c.mark_of.ensures c.if-mark_of-ne-TAKEN.false
