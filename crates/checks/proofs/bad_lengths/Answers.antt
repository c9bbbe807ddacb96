-- Each length is tested. Assumes nothing.
use Rattle.checks.proofs.Laws.{lengths_are}
use Rattle.checks.proofs.bad_lengths.Goals as goal

pub returns : goal.returns
returns c =
    λ slots n. lengths_are _ _ _ _ slots _ n c.task_count.ensures
