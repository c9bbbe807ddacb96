-- From the call over copies to the call over all records. Assumes nothing.
use mathlib.Core.Path.{◌≡◌, ◌∙◌}
use lib.ListN.{length}
use Rattle.copies.proofs.One.{column_whole}
use Rattle.column_call.proofs.column.Goals as goal

pub returns : goal.returns
returns c =
    let n = c.looked_at-n.ensures in
    let long : length c.load.new.flat ≡ 1497 = c.load.auto.flat in
    let still : length c.column_part-reply.new.records ≡ 1497 = c.column_part-reply.auto.records ∙ long in (
      column_whole c.args.z c.args.matrix.now c.args.lists.now c.args.records.now c.args.workers c.args.w _ c.load.new.flat c.column_part-reply.new.matrix c.column_part-reply.new.lists c.column_part-reply.new.records c.column_part-reply.result c.store.new.records
          long still (rw n at c.load.ensures) (rw n at c.column_part-reply.ensures.0) (rw (c.past.ensures, n, c.task_held-p.ensures) at c.store.ensures),
      c.column_part-reply.ensures.1,
    )
