-- The answer is the first refusal that holds. Assumes nothing.
use Rattle.laws.proofs.Refusals.{passed_on}
use Rattle.answers.proofs.Refusals.{accepts_ok, accepts_err}
use Rattle.std.specs.Prelude.{Err}
use mathlib.Core.Path.{refl, sym, ap, ◌∙◌}
use Rattle.run_checks.proofs.Laws.{state_stops, element_stops, all_pass}
use Rattle.run_checks.proofs.run_answer.Goals as goal

pub returns-in_err-state_answer : goal.returns-in_err-state_answer
returns-in_err-state_answer c =
    passed_on _ _ _ c.from_residual.ensures.1 c.in_err-state_answer.was ∙ sym c.in_err-state_answer.was
    ∙ state_stops _ _ _ _ _ _ _ _ c.state_answer.ensures _ refl (accepts_err _ _ c.in_err-state_answer.was)

pub returns-then-not-all_finite : goal.returns-then-not-all_finite
returns-then-not-all_finite c =
    ap Err c.at.ensures ∙ element_stops _ _ _ _ _ _ _ _ c.state_answer.ensures _ refl (accepts_ok _ _ c.in_ok-state_answer.was)
    _ c.all_finite.ensures c.if-not-all_finite.true

pub returns : goal.returns
returns c =
    all_pass _ _ _ _ _ _ _ _ c.state_answer.ensures _ refl (accepts_ok _ _ c.in_ok-state_answer.was)
    _ c.all_finite.ensures c.if-not-all_finite.false
