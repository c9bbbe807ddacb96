-- A refusal leaves the answers; else what was solved. Assumes nothing.
use mathlib.Core.Path.{sym, ◌∙◌}
use borrow.Author.Rules.{rules}
use Rattle.records.specs.Records.{lent}
use Rattle.laws.proofs.Refusals.{passed_on}
use Rattle.solving.proofs.Laws.{checked, refused, accepted_lem}
use Rattle.solving.proofs.solve.Goals as goal

pub returns-in_err-solve_answer : goal.returns-in_err-solve_answer
returns-in_err-solve_answer c =
    rw (passed_on _ _ _ c.from_residual.ensures.1 c.in_err-solve_answer.was) (refused _ _ _ _ _ c.solve_answer.ensures _ c.in_err-solve_answer.was)

pub solve_with-requires : goal.solve_with-requires
solve_with-requires c =
    let a = c.args in
    let k = checked a.z a.matrix.now a.lists.now a.records.now a.workers.slots a.workers.count a.workers.number a.right.now a.answers.now (sym c.solve_answer.ensures ∙ c.in_ok-solve_answer.was) in
    record { solvable = k.solvable; right_side = k.right; matrix_value = (k.all_finite_lem, k.answers_long, search rules) }

pub returns : goal.returns
unfolding lent
returns c =
    c.solve_with.ensures ∙ accepted_lem _ _ _ _ _ c.solve_answer.ensures c.in_ok-solve_answer.was
