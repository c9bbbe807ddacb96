-- The tests are those of the definition. Assumes nothing.
use mathlib.Core.Path.{refl}
use Rattle.model.specs.Refusal.{inside}
use Rattle.model.specs.Text.{bad_shape}
use Rattle.shapes.proofs.bad_shape.Goals as goal

pub returns : goal.returns
unfolding bad_shape inside
returns c =
    refl
