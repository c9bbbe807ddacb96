-- Whether a number isn't finite, and where. Assumes nothing.
use mathlib.Core.Path.{ap, ◌∙◌}
use Rattle.std.specs.Prelude.{Err}
use Rattle.solve_checks.proofs.Laws.{right_3, right_0}
use Rattle.solve_checks.proofs.right_answer.Goals as goal

pub returns-in-Some : goal.returns-in-Some
returns-in-Some c =
    ap Err c.at.ensures ∙ right_3 _ _ c.first_not_finite-offset.ensures _ c.in-Some.is

pub returns-in-None : goal.returns-in-None
returns-in-None c =
    right_0 _ _ c.first_not_finite-offset.ensures c.in-None.is
