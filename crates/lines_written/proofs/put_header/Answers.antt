-- `lines_written::put_header` meets its contract. Assumes nothing.
use Rattle.lines_written.proofs.Lines as lines
use Rattle.lines_written.proofs.put_header.Goals as goal

pub returns : goal.returns
returns c =
    (lines.put_header _ _ _ _ _ _ c.requires c.put_three.ensures).is
