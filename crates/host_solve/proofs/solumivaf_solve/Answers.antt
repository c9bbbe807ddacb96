-- The workers are gathered, and the answer is told. Assumes nothing.
use Rattle.model.specs.Calls.{Lent}
use Rattle.model.specs.Solve.{solve_call}
use Rattle.host_calls.proofs.Laws.{solve_said}
use Rattle.host_solve.proofs.solumivaf_solve.Goals as goal

pub returns : goal.returns
returns c =
    let a = c.args in
    solve_said a.matrix.now a.lists.now a.records.now _ c.gather-given.result c.gather-given.ensures c.tell.result (λ (s : Lent). solve_call (record { tiles = a.tiles; side = a.side; workers = a.workers }) s a.right.now a.answers.now) _ _ c.solve-answer.ensures c.tell.ensures
