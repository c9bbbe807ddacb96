-- The workers are gathered, the call is made, and they are put back. Assumes nothing.
use mathlib.Core.Path.{refl}
use Rattle.model.specs.Refusal.{take_call}
use Rattle.host_calls.proofs.Laws.{call_said}
use Rattle.host_start.proofs.solumivaf_take.Goals as goal

pub returns : goal.returns
returns c =
    let a = c.args in
    call_said a.matrix.now a.matrix.now a.lists.now a.lists.now a.records.now c.take-reply.new.records a.busy.now _ a.task.now a.column.now a.count a.number.now _ _ c.gather-given.result c.gather-given.ensures c.tell.result (take_call (record { tiles = a.tiles; side = a.side; workers = a.workers }) a.w a.p) c.take-reply.result c.take-reply.ensures.workers_after c.take-reply.ensures.others_kept c.scatter.ensures.column_after c.scatter.ensures.busy_after refl c.tell.ensures
