-- `lines_written::put_tile` meets its contract. Assumes nothing.
use Rattle.model.specs.Text.{bits}
use Rattle.digits_written.proofs.Pieces.{length_part, length_bits}
use Rattle.lines_written.proofs.Lines as lines
use Rattle.lines_written.proofs.put_tile.Goals as goal

pub returns : goal.returns
returns c =
    let a = c.args in
    (lines.put_frame _ _ _ _ _ _ _ _ _ c.requires.n_in_bounds (length_part bits 16 length_bits a.start a.n a.m.now c.requires.n_in_bounds_2) c.put_three.ensures c.put_numbers.ensures).is
