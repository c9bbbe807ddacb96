-- Each read goes on behind what was read before. Assumes nothing.
use Rattle.std.proofs.Common.{rules}
use Rattle.solumivaf.proofs.Moved.{reads_on}
use Rattle.solumivaf.proofs.read_full.Goals as goal

pub loop-done-preserved : goal.loop-done-preserved
loop-done-preserved g c =
    (search rules, reads_on _ _ _ _ _ _ _ _ c.loop-done.invariant.0 (search rules) c.loop-done.invariant.1 c.in_ok-n.ensures.bytes.0)
