-- From the reply of the call to what is told and left. Assumes nothing.
use Rattle.model.specs.Refusal.{take_call}
use Rattle.bench_structs.proofs.Laws.{replies}
use Rattle.bench_structs.proofs.bench_take.Goals as goal

pub returns : goal.returns
returns c =
    let all = replies c.args.matrix.now c.args.matrix.now c.args.lists.now c.args.lists.now c.args.records.now c.take-reply.new.records c.idle_workers.result _ c.idle_workers.ensures c.number_in.result (take_call c.args.z c.args.w c.args.p) c.take-reply.result c.take-reply.ensures.0 c.number_in.ensures in
    (all.0, all.2)
