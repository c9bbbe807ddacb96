-- `digits_written::put_hex` meets its contract: the digits are written from the lowest on. Assumes nothing.
use Rattle.digits_written.proofs.Put.{hexed_none, hexed_more}
use Rattle.digits_written.proofs.put_hex.Goals as goal

pub loop-k-init : goal.loop-k-init
loop-k-init c = hexed_none _ _ _ _ c.requires

pub loop-k-preserved : goal.loop-k-preserved
loop-k-preserved c = rw c.digit.ensures (hexed_more _ _ _ _ _ _ _ c.loop-k-test.true c.loop-k.invariant)
