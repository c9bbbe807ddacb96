-- The workers are gathered, the call is made, and they are put back. Assumes nothing.
use mathlib.Core.Path.{refl}
use Rattle.model.specs.Refusal.{run_call}
use Rattle.host_calls.proofs.Laws.{run_said}
use Rattle.host_run.proofs.solumivaf_run.Goals as goal

pub returns : goal.returns
returns c =
    let a = c.args in
    run_said a.matrix.now c.run-reply.new.matrix a.lists.now c.run-reply.new.lists a.records.now c.run-reply.new.records a.busy.now _ a.task.now a.column.now a.count a.number.now _ _ c.gather-given.result c.gather-given.ensures c.tell_run.result (run_call (record { tiles = a.tiles; side = a.side; workers = a.workers }) a.budget) c.run-reply.result c.run-reply.ensures.workers_after c.run-reply.ensures.others_kept c.scatter.ensures.column_after c.scatter.ensures.busy_after refl c.tell_run.ensures
