-- From the call over copies to the call over all records. Assumes nothing.
use mathlib.Core.Path.{◌≡◌, ◌∙◌}
use lib.ListN.{length}
use Rattle.copies.proofs.One.{take_whole}
use Rattle.take_call.proofs.take.Goals as goal

pub returns : goal.returns
returns c =
    let n = c.looked_at-n.ensures in
    let long : length c.load.new.flat ≡ 1497 = c.load.auto.flat in
    let still : length c.take_part-reply.new.records ≡ 1497 = c.take_part-reply.auto.records ∙ long in (
      take_whole c.args.z c.args.matrix.now c.args.lists.now c.args.records.now c.args.workers c.args.w c.args.p _ c.load.new.flat c.args.matrix.now c.args.lists.now c.take_part-reply.new.records c.take_part-reply.result c.store.new.records
          long still (rw n at c.load.ensures) (rw n at c.take_part-reply.ensures.0) (rw (c.past.ensures, n) at c.store.ensures),
      c.take_part-reply.ensures.1,
    )
