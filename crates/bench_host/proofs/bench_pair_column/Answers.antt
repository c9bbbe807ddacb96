-- `bench_pair_column` meets its contract: it hands on the column's. Assumes nothing.
use Rattle.bench_host.proofs.Laws.{ends}
use Rattle.bench_host.proofs.bench_pair_column.Goals as goal

pub returns : goal.returns
returns c =
    ends _ _ c.pair_column.result _ c.told.ensures c.pair_column.ensures
