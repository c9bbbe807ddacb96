-- The definition makes the same tests. Assumes nothing.
use mathlib.Core.Path.{refl}
use Rattle.model.specs.Links.{broken}
use Rattle.marks.proofs.is_broken.Goals as goal

pub returns : goal.returns
unfolding broken
returns c =
    refl
