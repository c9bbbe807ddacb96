-- `system_written::put_system` meets its contract. Assumes nothing.
use native.Mathlib.Omega.{arith}
use Rattle.rows_written.specs.Rows.{system_length}
use Rattle.rows_written.proofs.Shapes.{bounds}
use Rattle.system_written.proofs.Answers as answers
use Rattle.system_written.proofs.put_system.Goals as goal

pub put_header-requires : goal.put_header-requires
unfolding system_length
put_header-requires c =
    omega (arith, c.requires.t_in_bounds)

pub overflow_mul-t : goal.overflow_mul-t
overflow_mul-t c =
    let a = c.args in omega (arith, bounds a.n a.t c.requires.n_le_most_tiles.0 c.requires.n_le_most_tiles.1)

pub put_tiles-requires : goal.put_tiles-requires
unfolding system_length
put_tiles-requires c =
    let a = c.args in record { n_le_most_tiles = (c.requires.n_le_most_tiles.0, (bounds a.n a.t c.requires.n_le_most_tiles.0 c.requires.n_le_most_tiles.1).numbers); s_in_bounds = omega (arith, c.requires.t_in_bounds, c.put_header.auto); s_in_bounds_2 = c.requires.t_in_bounds_2 }

pub shape_of-text : goal.shape_of-text
shape_of-text c =
    omega arith

pub returns : goal.returns
returns c =
    let a = c.args in (answers.put_system a.n a.t a.m.now _ _ _ c.requires.t_in_bounds c.requires.t_in_bounds_2 c.put_header.ensures c.put_tiles.ensures).is
