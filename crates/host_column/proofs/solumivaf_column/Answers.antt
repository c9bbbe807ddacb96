-- The workers are gathered, the call is made, and they are put back. Assumes nothing.
use mathlib.Core.Path.{refl}
use Rattle.model.specs.Refusal.{column_call}
use Rattle.host_calls.proofs.Laws.{call_said}
use Rattle.host_column.proofs.solumivaf_column.Goals as goal

pub returns : goal.returns
returns c =
    let a = c.args in
    call_said a.matrix.now c.column-reply.new.matrix a.lists.now c.column-reply.new.lists a.records.now c.column-reply.new.records a.busy.now _ a.task.now a.column.now a.count a.number.now _ _ c.gather-given.result c.gather-given.ensures c.tell.result (column_call (record { tiles = a.tiles; side = a.side; workers = a.workers }) a.w) c.column-reply.result c.column-reply.ensures.workers_after c.column-reply.ensures.others_kept c.scatter.ensures.column_after c.scatter.ensures.busy_after refl c.tell.ensures
