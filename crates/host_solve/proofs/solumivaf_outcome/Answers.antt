-- The workers are gathered, and the answer is told. Assumes nothing.
use mathlib.Core.Path.{ap, ◌∙◌}
use Rattle.worker.specs.declared.Workers.{Workers}
use Rattle.model.specs.Refusal.{outcome_call}
use Rattle.records.specs.Records.{all_lent}
use Rattle.host_answers.specs.Answers.{outcome_told}
use Rattle.host_solve.proofs.solumivaf_outcome.Goals as goal

pub returns : goal.returns
returns c =
    let a = c.args in
    c.tell_outcome.ensures ∙ ap outcome_told c.outcome-answer.ensures ∙ ap (λ (k : Workers). outcome_told (outcome_call (record { tiles = a.tiles; side = a.side; workers = a.workers }) (all_lent a.matrix.now a.lists.now a.records.now k))) c.gather-given.ensures
