-- `old_loops::like_the_old_loops` meets its contract, which is K2's claim. Assumes nothing.
use Rattle.old_loops.proofs.Loops.{claim}
use Rattle.old_loops.proofs.like_the_old_loops.Goals as goal

pub returns : goal.returns
returns c =
    claim c.args.z
