-- A task is spoiled where one of the three marks is that of a failed or spoiled task. Assumes nothing.
use Rattle.spoiling.proofs.Laws.{marks_spoil}
use Rattle.spoiling.proofs.is_spoiled.Goals as goal

pub returns : goal.returns
returns c =
    marks_spoil _ _ _ c.requires.below _ c.link_marks-m.ensures
    c.is_broken.ensures c.is_broken-2.ensures c.is_broken-3.ensures
