-- A worker in a slot has the task that it holds. Assumes nothing.
use mathlib.Core.Path.{sym, ap}
use native.Mathlib.Omega.{arith}
use lib.ListN.{get_or-eq_default}
use Rattle.worker.specs.declared.Worker.{Worker}
use Rattle.worker.specs.Holding.{idle}
use Rattle.records.proofs.Laws.{length_slots}
use Rattle.column_call.proofs.task_held.Goals as goal

pub returns : goal.returns
returns c =
    let ws = c.args.workers in
    sym (ap (λ (h : Worker). h.task) (get_or-eq_default ws.slots idle {n = c.args.w} (omega (arith, length_slots ws _ c.well_formed.0.1.1.0.1.0.1, c.if-w-lt-SLOTS.false))))
