-- `bench_couple_column` meets its contract: it hands on the column's. Assumes nothing.
use Rattle.bench_host.proofs.Laws.{ends}
use Rattle.bench_host.proofs.bench_couple_column.Goals as goal

pub returns : goal.returns
returns c =
    ends _ _ c.couple_column.result _ c.told.ensures c.couple_column.ensures
