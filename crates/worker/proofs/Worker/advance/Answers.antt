-- The stores leave the worker one column further. Assumes nothing.
use mathlib.Core.Path.{refl}
use Rattle.worker.proofs.Worker.advance.Goals as goal

pub returns : goal.returns
returns c =
    refl
