-- From the call over copies to the call over all records. Assumes nothing.
use mathlib.Core.Path.{◌≡◌, ◌∙◌}
use lib.ListN.{length}
use Rattle.copies.proofs.All.{solve_whole}
use Rattle.solve_call.proofs.solve.Goals as goal

pub returns : goal.returns
returns c =
    let n = c.looked_at-n.ensures in
    let long : length c.load.new.flat ≡ 1497 = c.load.auto.flat in
    (rw n at c.solve_part.ensures) ∙ solve_whole c.args.z c.args.matrix.now c.args.lists.now c.args.records.now c.args.workers c.args.right.now c.args.answers.now _ c.load.new.flat long (rw n at c.load.ensures)
