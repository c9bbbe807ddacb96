-- Each worker is put at its place, and a byte that says the same stands as it was. Assumes nothing.
use Rattle.std.proofs.Common.{rules, ◌≡◌, get_or, length}
use Rattle.worker.specs.Holding.{idle}
use Rattle.records.proofs.Laws.{length_slots}
use Rattle.host_workers.specs.Workers.{byte_left, bytes_left}
use Rattle.host_workers.proofs.Laws.{made, scattered}
use Rattle.host_workers.proofs.scatter.Goals as goal

pub returns-clause-busy_after : goal.returns-clause-busy_after
unfolding bytes_left
returns-clause-busy_after c =
    let given = c.args.busy.now in
    let ws = c.args.workers.slots in
    made (λ v. byte_left (get_or given v 0) (get_or ws v idle).busy) 32 (λ k y q l e. (search rules, search rules)) _ 0 c.from_fn.ensures.items

pub returns-clause-column_after : goal.returns-clause-column_after
returns-clause-column_after c =
    let ws = c.args.workers.slots in
    let n : length ws ≡ 32 = length_slots c.args.workers _ c.well_formed.0.1.1.0.1.0.1 in
    scattered _ _ _ ws c.args.busy.now n (returns-clause-busy_after c)
    (made (λ v. (get_or ws v idle).task) 32 (λ k y q l e. (search rules, search rules)) _ 0 c.from_fn-2.ensures.items)
    (made (λ v. (get_or ws v idle).column) 32 (λ k y q l e. (search rules, search rules)) _ 0 c.from_fn-3.ensures.items)
