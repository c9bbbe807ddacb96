-- The list's entries have its limit. Assumes nothing.
use Rattle.entries.proofs.Laws.{list_exceeds}
use Rattle.entries.proofs.bad_list.Goals as goal

pub returns : goal.returns
returns c =
    list_exceeds c.args.z _ _ _ c.requires.3 _ c.entry_limit.ensures _ c.exceeded.ensures
