-- Each worker is that of the arrays at its place. Assumes nothing.
use Rattle.std.proofs.Common.{rules, ◌≡◌}
use Rattle.worker.specs.Holding.{idle}
use Rattle.host_workers.specs.Workers.{says_busy, worker_in, slots_in}
use Rattle.host_workers.proofs.Laws.{made}
use Rattle.host_workers.proofs.gather.Goals as goal

pub returns : goal.returns
unfolding slots_in worker_in says_busy
returns c =
    let a = c.args in
    let e : c.from_fn.result ≡ slots_in a.busy a.task a.column = made (worker_in a.busy a.task a.column) 32 (λ k y q l e. (search rules, search rules)) _ idle c.from_fn.ensures.items in
    λ i. record { slots = e i; count = a.count; number = a.number }
