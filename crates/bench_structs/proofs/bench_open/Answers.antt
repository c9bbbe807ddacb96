-- From the reply of the call to what is told and left. Assumes nothing.
use Rattle.model.specs.Refusal.{open_call}
use Rattle.bench_structs.proofs.Laws.{replies}
use Rattle.bench_structs.proofs.bench_open.Goals as goal

pub returns : goal.returns
returns c =
    replies c.args.matrix.now c.args.matrix.now c.args.lists.now c.open-reply.new.lists c.args.records.now c.open-reply.new.records c.idle_workers.result _ c.idle_workers.ensures c.number_in.result (open_call c.args.z) c.open-reply.result c.open-reply.ensures.0 c.number_in.ensures
