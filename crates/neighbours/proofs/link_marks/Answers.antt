-- Record p has the triple of task p. Assumes nothing.
use mathlib.Core.Path.{refl}
use Rattle.neighbours.proofs.Laws.{placed, marks_are}
use Rattle.neighbours.proofs.link_marks.Goals as goal

pub back_mark-back-requires : goal.back_mark-back-requires
back_mark-back-requires c =
    placed _ _ _ c.requires _ c.record_at-r.ensures _ _ _ refl c.max-i.ensures c.max-j.ensures

pub above_mark-above-requires : goal.above_mark-above-requires
above_mark-above-requires c =
    placed _ _ _ c.requires _ c.record_at-r.ensures _ _ _ refl c.max-i.ensures c.max-j.ensures

pub left_mark-left-requires : goal.left_mark-left-requires
left_mark-left-requires c =
    placed _ _ _ c.requires _ c.record_at-r.ensures _ _ _ refl c.max-i.ensures c.max-j.ensures

pub returns : goal.returns
returns c =
    marks_are _ _ _ c.requires _ c.record_at-r.ensures
    _ _ _ refl c.max-i.ensures c.max-j.ensures
    _ _ c.back_mark-back.ensures c.above_mark-above.ensures c.left_mark-left.ensures
