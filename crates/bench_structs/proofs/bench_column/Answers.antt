-- From the reply of the call to what is told and left. Assumes nothing.
use Rattle.model.specs.Refusal.{column_call}
use Rattle.bench_structs.proofs.Laws.{replies}
use Rattle.bench_structs.proofs.bench_column.Goals as goal

pub returns : goal.returns
returns c =
    replies c.args.matrix.now c.column-reply.new.matrix c.args.lists.now c.column-reply.new.lists c.args.records.now c.column-reply.new.records c.one_holding.result _ c.one_holding.ensures c.number_in.result (column_call c.args.z c.args.w) c.column-reply.result c.column-reply.ensures.0 c.number_in.ensures
