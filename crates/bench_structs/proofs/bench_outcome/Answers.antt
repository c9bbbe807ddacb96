-- From the reply of the call to what is told and left. Assumes nothing.
use Rattle.model.specs.Refusal.{outcome_call}
use Rattle.bench_structs.proofs.Laws.{outcome_told_lem}
use Rattle.bench_structs.proofs.bench_outcome.Goals as goal

pub returns : goal.returns
returns c =
    outcome_told_lem c.args.matrix.now c.args.lists.now c.args.records.now c.idle_workers.result _ c.idle_workers.ensures c.outcome_number.result (outcome_call c.args.z) c.outcome-answer.result c.outcome-answer.ensures c.outcome_number.ensures
