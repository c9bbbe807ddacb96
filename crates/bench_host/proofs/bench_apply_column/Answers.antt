-- `bench_apply_column` meets its contract: it hands on the column's. Assumes nothing.
use Rattle.bench_host.proofs.Laws.{ends}
use Rattle.bench_host.proofs.bench_apply_column.Goals as goal

pub returns : goal.returns
returns c =
    ends _ _ c.apply_column.result _ c.told.ensures c.apply_column.ensures
