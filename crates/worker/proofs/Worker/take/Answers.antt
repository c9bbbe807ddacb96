-- The stores leave the worker with the task. Assumes nothing.
use mathlib.Core.Path.{refl}
use Rattle.worker.proofs.Worker.take.Goals as goal

pub returns : goal.returns
returns c =
    refl
