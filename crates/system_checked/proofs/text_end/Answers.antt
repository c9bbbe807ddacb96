-- `system_checked::text_end` meets its contract. Assumes nothing.
use mathlib.Core.Path.{sym, ap, ◌∙◌}
use borrow.Author.Tests.{lt-ltb, le-ltb}
use Rattle.std.specs.Prelude.{Err}
use Rattle.laws.proofs.Refusals.{passed_on}
use Rattle.model.specs.Refusal.{refuse}
use Rattle.frames_read.specs.Follow.{text_end}
use Rattle.system_checked.proofs.text_end.Goals as goal

pub returns-in_err-end : goal.returns-in_err-end
unfolding text_end
returns-in_err-end c =
    passed_on _ _ _ c.from_residual.ensures.1 c.in_err-end.was ∙ sym (ap (text_end _) c.in_err-end.was)

pub returns-then-end-text : goal.returns-then-end-text
unfolding text_end refuse
returns-then-end-text c =
    rw (c.in_ok-end.was, lt-ltb _ _ c.if-end-text.true) (ap Err c.at.ensures)

pub returns : goal.returns
unfolding text_end refuse
returns c =
    rw (c.in_ok-end.was, le-ltb _ _ c.if-end-text.false)
