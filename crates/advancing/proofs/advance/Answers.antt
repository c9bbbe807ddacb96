-- What the column, the record's store and the worker's move ensure: the tie sum stays small. Assumes nothing.
use mathlib.Core.List.{[]}
use native.Mathlib.Omega.{arith}
use Rattle.advancing.proofs.Laws.{few_more}
use Rattle.advancing.proofs.advance.Goals as goal

pub add_column-requires : goal.add_column-requires
add_column-requires c =
    let a = c.args in
    let d = c.requires.0 in
    let e = few_more a.z a.h a.matrix.now a.lists.now a.records.now d c.work_task-end.result _ (c.work_task-end.ensures [] 0) in
    (omega (arith, d.recorded.long, d.recorded.below), omega (arith, e, c.ties_after.ensures))
