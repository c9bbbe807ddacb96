-- `result_written::put_result` meets its contract. Assumes nothing.
use native.Mathlib.Omega.{arith}
use Rattle.rows_written.specs.Rows.{result_length}
use Rattle.result_written.proofs.Answers as answers
use Rattle.result_written.proofs.put_result.Goals as goal

pub put_system-requires : goal.put_system-requires
unfolding result_length
put_system-requires c =
    record { n_le_most_tiles = c.requires.n_le_most_tiles; t_in_bounds = omega (arith, c.requires.t_in_bounds); t_in_bounds_2 = c.requires.t_in_bounds_2 }

pub system_length-requires : goal.system_length-requires
system_length-requires c =
    c.requires.n_le_most_tiles

pub put_lists-requires : goal.put_lists-requires
unfolding result_length
put_lists-requires c =
    record { n_le_most_tiles = c.requires.n_le_most_tiles; t_in_bounds = omega (arith, c.requires.t_in_bounds, c.system_length.ensures, c.put_system.auto); t_in_bounds_2 = c.requires.t_in_bounds_3 }

pub result_length-requires : goal.result_length-requires
result_length-requires c =
    c.requires.n_le_most_tiles

pub overflow_sub-result_length : goal.overflow_sub-result_length
unfolding result_length
overflow_sub-result_length c =
    omega (arith, c.result_length.ensures)

pub put_outcome-requires : goal.put_outcome-requires
unfolding result_length
put_outcome-requires c =
    omega (arith, c.requires.t_in_bounds, c.result_length.ensures, c.put_system.auto, c.put_lists.auto)

pub shape_of-text : goal.shape_of-text
shape_of-text c =
    omega arith

pub returns : goal.returns
returns c =
    let a = c.args in (answers.put_result a.n a.t a.m.now a.l.now a.outcome _ _ _ _ _ _ c.requires.t_in_bounds c.requires.t_in_bounds_2 c.requires.t_in_bounds_3 c.system_length.ensures c.result_length.ensures c.put_system.ensures c.put_lists.ensures c.put_outcome.ensures).is
