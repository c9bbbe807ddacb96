-- The slots filled are the workers. Assumes nothing.
use mathlib.Core.Path.{refl}
use native.Mathlib.Omega.{arith}
use lib.Seq.{length-take-le}
use Rattle.opened.proofs.Laws.{idle_front}
use Rattle.opened.proofs.idle_workers.Goals as goal

pub returns-clause-count_value : goal.returns-clause-count_value
returns-clause-count_value c =
    let ws = c.args.workers in
    (idle_front _ _ ws.count _ _ c.idle.ensures (length-take-le ws.count ws.slots (omega arith)) (c.fill.ensures.after (λ y k. k)), refl)
