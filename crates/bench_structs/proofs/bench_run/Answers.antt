-- From the reply of the call to what is told and left. Assumes nothing.
use Rattle.model.specs.Refusal.{run_call}
use Rattle.bench_structs.proofs.Laws.{ran}
use Rattle.bench_structs.proofs.bench_run.Goals as goal

pub returns : goal.returns
returns c =
    ran c.args.matrix.now c.run-reply.new.matrix c.args.lists.now c.run-reply.new.lists c.args.records.now c.run-reply.new.records c.idle_workers.result _ c.idle_workers.ensures c.calls_in.result (run_call c.args.z c.args.budget) c.run-reply.result c.run-reply.ensures.0 c.calls_in.ensures
