-- `cursors::check_line` meets its contract, a law for each way out. Assumes nothing.
use mathlib.Core.Path.{sym, ap, ◌∙◌}
use Rattle.std.specs.Prelude.{Err}
use Rattle.laws.proofs.Refusals.{passed_on}
use Rattle.cursors.proofs.Steps.{at_end, too_short, by_line}
use Rattle.cursors.proofs.check_line.Goals as goal

pub returns-then-text-at : goal.returns-then-text-at
returns-then-text-at c =
    ap Err c.at.ensures ∙ at_end _ _ _ _ c.if-text-at.true

pub returns-then-text-at-2 : goal.returns-then-text-at-2
returns-then-text-at-2 c =
    ap Err c.at-then-text-at-2.ensures ∙ too_short _ _ _ _ c.requires.cursor_fits c.if-text-at.false _ c.line_length-size.ensures c.if-text-at-2.true

pub returns-in_err-line_answer : goal.returns-in_err-line_answer
returns-in_err-line_answer c =
    passed_on _ _ _ c.from_residual.ensures.1 c.in_err-line_answer.was
    ∙ by_line _ _ _ _ c.requires.cursor_fits c.if-text-at.false _ c.line_length-size.ensures _ c.if-text-at-2.false (sym c.in_err-line_answer.was ∙ c.line_answer.ensures)

pub returns : goal.returns
returns c =
    by_line _ _ _ _ c.requires.cursor_fits c.if-text-at.false _ c.line_length-size.ensures _ c.if-text-at-2.false (sym c.in_ok-line_answer.was ∙ c.line_answer.ensures)
