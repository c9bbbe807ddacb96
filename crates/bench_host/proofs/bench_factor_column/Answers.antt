-- `bench_factor_column` meets its contract: it hands on the column's. Assumes nothing.
use Rattle.bench_host.proofs.Laws.{ends}
use Rattle.bench_host.proofs.bench_factor_column.Goals as goal

pub returns : goal.returns
returns c =
    ends _ _ c.factor_column.result _ c.told.ensures c.factor_column.ensures
