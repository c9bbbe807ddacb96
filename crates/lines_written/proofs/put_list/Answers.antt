-- `lines_written::put_list` meets its contract. Assumes nothing.
use Rattle.model.specs.Text.{hex}
use Rattle.digits_written.proofs.Put.{length_hex}
use Rattle.digits_written.proofs.Pieces.{length_part}
use Rattle.lines_written.proofs.Lines as lines
use Rattle.lines_written.proofs.put_list.Goals as goal

pub returns : goal.returns
returns c =
    let a = c.args in
    (lines.put_frame _ _ _ _ _ _ _ _ _ c.requires.n_in_bounds (length_part (hex 2) 2 (length_hex 2) a.start a.n a.l.now c.requires.n_in_bounds_2) c.put_three.ensures c.put_entries.ensures).is
