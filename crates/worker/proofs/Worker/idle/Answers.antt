-- The worker made is the idle one. Assumes nothing.
use mathlib.Core.Path.{refl}
use Rattle.worker.proofs.Worker.idle.Goals as goal

pub returns : goal.returns
returns c =
    refl
