-- The first refusal that holds, in the table's order. Assumes nothing.
use mathlib.Core.Path.{ap, ◌∙◌}
use Rattle.std.specs.Prelude.{Err}
use Rattle.solve_checks.proofs.Laws.{rest_8, rest_9, rest_10, rest_good}
use Rattle.solve_checks.proofs.rest_answer.Goals as goal

pub returns-in-Some : goal.returns-in-Some
returns-in-Some c =
    λ lists slots count number.
    let a = c.args in
    ap Err c.at.ensures ∙ rest_8 a.z a.matrix.now lists a.records.now slots count number a.right.now c.requires.2 _ c.first_unfinished-task.ensures _ c.in-Some.is

pub returns-in-Overflow : goal.returns-in-Overflow
returns-in-Overflow c =
    λ lists slots count number.
    let a = c.args in
    ap Err c.at-in-Overflow.ensures ∙ rest_9 a.z a.matrix.now lists a.records.now slots count number a.right.now c.requires.2 _ c.first_unfinished-task.ensures c.in_default.is _ (c.outcome_of-end.ensures lists) _ c.in-Overflow.is

pub returns-in-Singular : goal.returns-in-Singular
returns-in-Singular c =
    λ lists slots count number.
    let a = c.args in
    ap Err c.at-in-Singular.ensures ∙ rest_10 a.z a.matrix.now lists a.records.now slots count number a.right.now c.requires.2 _ c.first_unfinished-task.ensures c.in_default.is _ (c.outcome_of-end.ensures lists) _ c.in-Singular.is

pub returns-in-Good : goal.returns-in-Good
returns-in-Good c =
    λ lists slots count number.
    let a = c.args in
    rest_good a.z a.matrix.now lists a.records.now slots count number a.right.now c.requires.2 _ c.first_unfinished-task.ensures c.in_default.is _ (c.outcome_of-end.ensures lists) c.in-Good.is _ c.right_answer.ensures
