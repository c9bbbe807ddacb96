-- A task that waits is ready where the three marks are those of finished tasks. Assumes nothing.
use Rattle.readiness.proofs.Laws.{not_waiting, back_stops, others_decide}
use Rattle.readiness.proofs.is_ready.Goals as goal

pub returns-then-mark_of-ne-WAITING : goal.returns-then-mark_of-ne-WAITING
returns-then-mark_of-ne-WAITING c =
    not_waiting _ _ _ _ c.mark_of.ensures c.if-mark_of-ne-WAITING.true

pub returns-then-not-is_finished : goal.returns-then-not-is_finished
returns-then-not-is_finished c =
    back_stops _ _ _ _ c.mark_of.ensures c.if-mark_of-ne-WAITING.false
    c.requires.below _ c.link_marks-m.ensures
    c.is_finished.ensures c.if-not-is_finished.true

pub returns : goal.returns
returns c =
    others_decide _ _ _ _ c.mark_of.ensures c.if-mark_of-ne-WAITING.false
    c.requires.below _ c.link_marks-m.ensures
    c.is_finished.ensures c.if-not-is_finished.false c.is_finished-2.ensures c.is_finished-3.ensures
