-- The workers are gathered, the call is made, and they are put back. Assumes nothing.
use mathlib.Core.Path.{refl}
use Rattle.model.specs.Refusal.{open_call}
use Rattle.host_calls.proofs.Laws.{call_said}
use Rattle.host_start.proofs.solumivaf_open.Goals as goal

pub returns : goal.returns
returns c =
    let a = c.args in
    call_said a.matrix.now a.matrix.now a.lists.now c.open-reply.new.lists a.records.now c.open-reply.new.records a.busy.now _ a.task.now a.column.now a.count a.number.now _ _ c.gather-given.result c.gather-given.ensures c.tell.result (open_call (record { tiles = a.tiles; side = a.side; workers = a.workers })) c.open-reply.result c.open-reply.ensures.workers_after c.open-reply.ensures.others_kept c.scatter.ensures.column_after c.scatter.ensures.busy_after refl c.tell.ensures
