-- From the call over copies to the call over all records. Assumes nothing.
use mathlib.Core.Path.{◌≡◌, ◌∙◌}
use lib.ListN.{length}
use Rattle.copies.proofs.All.{outcome_whole}
use Rattle.outcome_call.proofs.outcome.Goals as goal

pub returns : goal.returns
returns c =
    let n = c.looked_at-n.ensures in
    let long : length c.load.new.flat ≡ 1497 = c.load.auto.flat in
    (rw n at c.outcome_part.ensures) ∙ outcome_whole c.args.z c.args.matrix.now c.args.lists.now c.args.records.now c.args.workers _ c.load.new.flat long (rw n at c.load.ensures)
