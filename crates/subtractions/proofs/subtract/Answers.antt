-- What is left to subtract from j on is the whole. Assumes nothing.
use native.Mathlib.Omega.{arith}
use Rattle.subtractions.proofs.Segments.{subtract_more, subtract_ends}
use Rattle.subtractions.proofs.subtract.Goals as goal

pub loop-j-preserved : goal.loop-j-preserved
loop-j-preserved c =
    rw c.subtract_one-left.ensures (subtract_more _ _ _ _ _ _ c.loop-j.invariant c.loop-j-test.true)

pub returns : goal.returns
returns c =
    subtract_ends _ _ _ _ _ _ c.loop-j.invariant (omega arith)
