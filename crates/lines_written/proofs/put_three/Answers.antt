-- `lines_written::put_three` meets its contract. Assumes nothing.
use Rattle.lines_written.proofs.Lines as lines
use Rattle.lines_written.proofs.put_three.Goals as goal

pub returns : goal.returns
returns c =
    (lines.put_three _ _ _ _ _ _ _ _ c.requires c.put_hex.ensures c.put_hex-2.ensures c.put_hex-3.ensures).is
