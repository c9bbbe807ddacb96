-- `idle_workers` meets its contract. Assumes nothing.
use mathlib.Core.Path.{ap}
use lib.ListN.{replicate}
use Rattle.bench_structs.specs.Bench.{idles}
use Rattle.bench_structs.proofs.idle_workers.Goals as goal

pub returns : goal.returns
unfolding idles
returns c =
    λ i. record { slots = ap (replicate 32) c.idle-h.ensures i; count = c.args.z.workers; number = c.args.number }
