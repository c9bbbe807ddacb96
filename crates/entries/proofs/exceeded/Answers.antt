-- What is found so far, or in what is left, gives the whole search's answer. Assumes nothing.
use Rattle.entries.proofs.Laws.{found_more, found_all}
use Rattle.entries.proofs.exceeded.Goals as goal
use Rattle.entries.proofs.exceeded.Invariants.{over}

pub loop-x-preserved : goal.loop-x-preserved
loop-x-preserved c =
    found_more (over c.args.limit c.args.lists.now) _ _ c.loop-x.bad _ c.loop-x-test.true c.loop-x.invariant

pub returns : goal.returns
returns c =
    found_all _ _ _ _ _ c.loop-x-test.false c.loop-x.invariant
