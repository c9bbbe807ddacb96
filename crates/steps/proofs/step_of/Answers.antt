-- By the kind. Assumes nothing.
use native.Mathlib.Omega.{arith}
use borrow.Author.Tests.{ne_eqb}
use Rattle.checks.specs.Checks.{task_from}
use Rattle.steps.proofs.step_of.Goals as goal

pub returns-in-1-clause-same_task : goal.returns-in-1-clause-same_task
unfolding task_from
returns-in-1-clause-same_task c =
    rw c.in-1.is

pub returns-in-2-clause-same_task : goal.returns-in-2-clause-same_task
unfolding task_from
returns-in-2-clause-same_task c =
    rw c.in-2.is

pub returns-in-3-clause-same_task : goal.returns-in-3-clause-same_task
unfolding task_from
returns-in-3-clause-same_task c =
    rw c.in-3.is

pub returns-in_default-clause-same_task : goal.returns-in_default-clause-same_task
unfolding task_from
returns-in_default-clause-same_task c =
    rw (ne_eqb c.args.task.kind 1 (λ e. omega arith), ne_eqb c.args.task.kind 2 (λ e. omega arith), ne_eqb c.args.task.kind 3 (λ e. omega arith))
