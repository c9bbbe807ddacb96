-- `one_worker::run_alone` meets its contract. Assumes nothing.
use Prim.Native.Nat.{◌+◌, ◌*◌}
use mathlib.Core.Path.{ap}
use Rattle.one_worker.proofs.Ends.{alone_told, published_told}
use Rattle.one_worker.proofs.run_alone.Goals as goal

pub returns : goal.returns
returns c =
    let b = ap (λ k. k * (c.args.side + 1)) c.task_count.ensures in record { result_after = alone_told _ _ _ _ _ _ c.requires c.one_idle.ensures _ _ _ _ c.open-opened.ensures.workers_after _ b _ _ _ _ _ c.run.ensures.workers_after _ c.outcome_of.ensures; result_after_2 = published_told _ _ _ _ _ _ c.requires c.one_idle.ensures _ _ _ _ c.open-opened.ensures.workers_after _ b _ _ _ _ _ c.run.ensures.workers_after _ c.outcome_of.ensures }
