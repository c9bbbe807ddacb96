-- Each kind by its number. Assumes nothing.
use mathlib.Core.Path.{◌≡◌}
use native.Mathlib.Omega.{arith}
use borrow.Author.Tests.{ne_eqb}
use Rattle.host_answers.specs.Answers.{outcome_from}
use Rattle.host_answers.proofs.outcome_from.Goals as goal

pub returns-in-0 : goal.returns-in-0
unfolding outcome_from
returns-in-0 c =
    rw c.in-0.is

pub returns-in-1 : goal.returns-in-1
unfolding outcome_from
returns-in-1 c =
    rw c.in-1.is

pub returns-in_default : goal.returns-in_default
unfolding outcome_from
returns-in_default c =
    let zero : c.args.kind ≡ 0 → ⊥ = λ e. omega arith in
    let one : c.args.kind ≡ 1 → ⊥ = λ e. omega arith in
    rw (ne_eqb _ _ zero, ne_eqb _ _ one)
