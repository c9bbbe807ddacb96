-- From the reply of the call to what is told and left. Assumes nothing.
use Rattle.model.specs.Solve.{solve_call}
use Rattle.bench_structs.proofs.Laws.{solves}
use Rattle.bench_structs.proofs.bench_solve.Goals as goal

pub returns : goal.returns
returns c =
    solves c.args.matrix.now c.args.lists.now c.args.records.now c.idle_workers.result _ c.idle_workers.ensures c.number_of.result (λ s. solve_call c.args.z s c.args.right.now c.args.answers.now) c.solve-answer.result c.solve-answer.new.answers c.solve-answer.ensures c.number_of.ensures
