-- Each write goes on behind what was written before. Assumes nothing.
use Rattle.std.proofs.Common.{rules}
use Rattle.solumivaf.proofs.Moved.{writes_on}
use Rattle.solumivaf.proofs.write_full.Goals as goal

pub loop-done-preserved : goal.loop-done-preserved
loop-done-preserved g c =
    (search rules, writes_on _ _ _ _ _ _ (search rules) c.loop-done.invariant.1 c.in_ok-put.ensures.bytes)
