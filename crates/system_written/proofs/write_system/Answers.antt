-- `system_written::write_system` meets its contract. Assumes nothing.
use mathlib.Core.Path.{sym, ◌∙◌}
use native.Mathlib.Omega.{arith}
use Rattle.rows_written.proofs.Shapes.{shape, bounds, enough}
use Rattle.system_written.proofs.Answers.{system_shape, system_matrix, system_short, system_written}
use Rattle.system_written.proofs.write_system.Goals as goal

pub returns-then-bad_shape : goal.returns-then-bad_shape
returns-then-bad_shape c =
    rw c.at.ensures (system_shape _ _ _ _ (sym c.bad_shape.ensures ∙ c.if-bad_shape.true))

pub overflow_mul-n : goal.overflow_mul-n
overflow_mul-n c =
    let a = c.args in let e = shape a.n a.t (sym c.bad_shape.ensures ∙ c.if-bad_shape.false) in omega (arith, bounds a.n a.t e.tiles e.side)

pub overflow_mul-n-2 : goal.overflow_mul-n-2
overflow_mul-n-2 c =
    let a = c.args in let e = shape a.n a.t (sym c.bad_shape.ensures ∙ c.if-bad_shape.false) in omega (arith, bounds a.n a.t e.tiles e.side)

pub overflow_mul-n-3 : goal.overflow_mul-n-3
overflow_mul-n-3 c =
    let a = c.args in let e = shape a.n a.t (sym c.bad_shape.ensures ∙ c.if-bad_shape.false) in omega (arith, bounds a.n a.t e.tiles e.side)

pub returns-then-matrix-n : goal.returns-then-matrix-n
returns-then-matrix-n c =
    rw c.at-then-matrix-n.ensures (system_matrix _ _ _ _ (sym c.bad_shape.ensures ∙ c.if-bad_shape.false) c.if-matrix-n.true)

pub system_length-length-requires : goal.system_length-length-requires
system_length-length-requires c =
    let a = c.args in let e = shape a.n a.t (sym c.bad_shape.ensures ∙ c.if-bad_shape.false) in (e.tiles, e.side)

pub returns-then-text-length : goal.returns-then-text-length
returns-then-text-length c =
    rw c.at-then-text-length.ensures (system_short _ _ _ _ (sym c.bad_shape.ensures ∙ c.if-bad_shape.false) c.if-matrix-n.false (rw c.system_length-length.ensures at c.if-text-length.true))

pub put_system-requires : goal.put_system-requires
put_system-requires c =
    let a = c.args in let e = shape a.n a.t (sym c.bad_shape.ensures ∙ c.if-bad_shape.false) in record { n_le_most_tiles = (e.tiles, e.side); t_in_bounds = rw c.system_length-length.ensures at c.if-text-length.false; t_in_bounds_2 = enough a.n a.t _ c.if-matrix-n.false }

pub shape_of-text : goal.shape_of-text
shape_of-text c =
    omega arith

pub returns : goal.returns
returns c =
    rw c.system_length-length.ensures (system_written _ _ _ _ (sym c.bad_shape.ensures ∙ c.if-bad_shape.false) c.if-matrix-n.false _ (rw c.system_length-length.ensures at c.if-text-length.false) c.put_system.ensures)
