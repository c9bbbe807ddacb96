-- `one_holding` meets its contract. Assumes nothing.
use mathlib.Core.Path.{ap}
use lib.ListN.{set, replicate}
use Rattle.worker.specs.Holding.{holding}
use Rattle.bench_structs.specs.Bench.{one_holding}
use Rattle.bench_structs.proofs.one_holding.Goals as goal

pub returns : goal.returns
unfolding one_holding
returns c =
    λ i. record {
      slots = ap (λ h. set (replicate 32 h) 0 (holding c.args.p c.args.c)) c.idle-h.ensures i;
      count = c.args.z.workers;
      number = c.args.number;
    }
