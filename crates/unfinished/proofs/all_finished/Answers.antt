-- The search tells whether every task is finished. Assumes nothing.
use mathlib.Core.Path.{◌∙◌}
use Rattle.unfinished.proofs.Finished.{found_none, none_found}
use Rattle.unfinished.proofs.all_finished.Goals as goal

pub returns : goal.returns
returns c =
    found_none _ _ c.is_none.ensures ∙ none_found _ _ c.first_unfinished.ensures
