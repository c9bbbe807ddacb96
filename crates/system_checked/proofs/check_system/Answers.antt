-- `system_checked::check_system` meets its contract. Assumes nothing.
use mathlib.Core.Path.{sym, ◌∙◌}
use Rattle.laws.proofs.Refusals.{passed_on}
use Rattle.system_checked.proofs.Headers.{facts, shape_read, refusal_read}
use Rattle.system_checked.proofs.Systems.{check_header_refused, check_refused, check_accepted}
use Rattle.system_checked.proofs.check_system.Goals as goal

pub returns-in_err-shape : goal.returns-in_err-shape
returns-in_err-shape c =
    passed_on _ _ _ c.from_residual.ensures.1 c.in_err-shape.was ∙ check_header_refused _ _ _ (refusal_read _ _ _ _ c.check_header.ensures c.in_err-shape.was)

pub check_system_lines-requires : goal.check_system_lines-requires
check_system_lines-requires c =
    let f = facts (shape_read _ _ _ _ _ c.check_header.ensures c.in_ok-shape.was) in (f.long, f.side.1)

pub returns-in_err-check_system_lines : goal.returns-in_err-check_system_lines
returns-in_err-check_system_lines c =
    passed_on _ _ _ c.from_residual-in_err-check_system_lines.ensures.1 c.in_err-check_system_lines.was
    ∙ check_refused _ _ _ _ (shape_read _ _ _ _ _ c.check_header.ensures c.in_ok-shape.was) _ (sym c.check_system_lines.ensures ∙ c.in_err-check_system_lines.was)

pub returns : goal.returns
returns c =
    check_accepted _ _ _ _ (shape_read _ _ _ _ _ c.check_header.ensures c.in_ok-shape.was) (sym c.check_system_lines.ensures ∙ c.in_ok-check_system_lines.was)
