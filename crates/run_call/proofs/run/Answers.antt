-- From the call over copies to the call over all records. Assumes nothing.
use mathlib.Core.Path.{◌≡◌, ◌∙◌}
use lib.ListN.{length}
use Rattle.copies.proofs.All.{run_whole}
use Rattle.run_call.proofs.run.Goals as goal

pub returns : goal.returns
returns c =
    let n = c.looked_at-n.ensures in
    let long : length c.load.new.flat ≡ 1497 = c.load.auto.flat in
    let still : length c.run_part-reply.new.records ≡ 1497 = c.run_part-reply.auto.records ∙ long in (
      run_whole c.args.z c.args.matrix.now c.args.lists.now c.args.records.now c.args.workers c.args.budget _ c.load.new.flat c.run_part-reply.new.matrix c.run_part-reply.new.lists c.run_part-reply.new.records c.run_part-reply.result c.store.new.records
          long still (rw n at c.load.ensures) (rw n at c.run_part-reply.ensures.0) (rw n at c.store.ensures),
      c.run_part-reply.ensures.1,
    )
