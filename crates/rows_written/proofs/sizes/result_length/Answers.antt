-- `rows_written::sizes::result_length` meets its contract. Assumes nothing.
use native.Mathlib.Omega.{arith}
use Rattle.rows_written.specs.Rows.{system_length, result_length}
use Rattle.rows_written.proofs.Shapes.{bounds, half}
use Rattle.rows_written.proofs.sizes.result_length.Goals as goal

pub overflow_add-result-3 : goal.overflow_add-result-3
unfolding system_length
overflow_add-result-3 c =
    omega (arith, bounds c.args.n c.args.t c.requires.0 c.requires.1, c.system_length.ensures)

pub overflow_add-result-4 : goal.overflow_add-result-4
unfolding system_length
overflow_add-result-4 c =
    omega (arith, bounds c.args.n c.args.t c.requires.0 c.requires.1, c.system_length.ensures)

pub returns : goal.returns
unfolding result_length
returns c =
    rw (c.system_length.ensures, half c.args.n c.requires.0)
