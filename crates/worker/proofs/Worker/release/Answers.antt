-- The stores leave the idle worker. Assumes nothing.
use mathlib.Core.Path.{refl}
use Rattle.worker.proofs.Worker.release.Goals as goal

pub returns : goal.returns
returns c =
    refl
