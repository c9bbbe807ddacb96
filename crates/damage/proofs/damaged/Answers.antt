-- The tests in turn. Assumes nothing.
use Rattle.damage.proofs.Laws.{damaged_1, damaged_2, damaged_3}
use Rattle.damage.proofs.damaged.Goals as goal

pub returns-then-bad_records : goal.returns-then-bad_records
returns-then-bad_records c =
    let a = c.args in
    λ m. damaged_1 a.z m a.lists.now _ a.workers a.number _ c.bad_records.ensures c.if-bad_records.true

pub returns-then-bad_workers : goal.returns-then-bad_workers
returns-then-bad_workers c =
    let a = c.args in
    λ m. damaged_2 a.z m a.lists.now _ a.workers a.number _ c.bad_records.ensures c.if-bad_records.false _ c.bad_workers.ensures c.if-bad_workers.true

pub returns : goal.returns
returns c =
    let a = c.args in
    λ m. damaged_3 a.z m a.lists.now _ a.workers a.number _ c.bad_records.ensures c.if-bad_records.false _ _ c.bad_workers.ensures c.if-bad_workers.false c.bad_entries.ensures
