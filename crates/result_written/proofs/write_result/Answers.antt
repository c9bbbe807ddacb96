-- `result_written::write_result` meets its contract. Assumes nothing.
use mathlib.Core.Path.{sym, ◌∙◌}
use native.Mathlib.Omega.{arith}
use Rattle.rows_written.proofs.Shapes.{shape, bounds, enough}
use Rattle.result_written.proofs.Answers.{result_shape, result_matrix, result_lists, result_short, result_written}
use Rattle.result_written.proofs.write_result.Goals as goal

pub returns-then-bad_shape : goal.returns-then-bad_shape
returns-then-bad_shape c =
    rw c.at.ensures (result_shape _ _ _ _ _ _ (sym c.bad_shape.ensures ∙ c.if-bad_shape.true))

pub overflow_mul-n : goal.overflow_mul-n
overflow_mul-n c =
    let a = c.args in let e = shape a.n a.t (sym c.bad_shape.ensures ∙ c.if-bad_shape.false) in omega (arith, bounds a.n a.t e.tiles e.side)

pub overflow_mul-n-2 : goal.overflow_mul-n-2
overflow_mul-n-2 c =
    let a = c.args in let e = shape a.n a.t (sym c.bad_shape.ensures ∙ c.if-bad_shape.false) in omega (arith, bounds a.n a.t e.tiles e.side)

pub overflow_mul-n-3 : goal.overflow_mul-n-3
overflow_mul-n-3 c =
    let a = c.args in let e = shape a.n a.t (sym c.bad_shape.ensures ∙ c.if-bad_shape.false) in omega (arith, bounds a.n a.t e.tiles e.side)

pub returns-then-matrix-n : goal.returns-then-matrix-n
returns-then-matrix-n c =
    rw c.at-then-matrix-n.ensures (result_matrix _ _ _ _ _ _ (sym c.bad_shape.ensures ∙ c.if-bad_shape.false) c.if-matrix-n.true)

pub overflow_mul-n-4 : goal.overflow_mul-n-4
overflow_mul-n-4 c =
    let a = c.args in let e = shape a.n a.t (sym c.bad_shape.ensures ∙ c.if-bad_shape.false) in omega (arith, bounds a.n a.t e.tiles e.side)

pub overflow_mul-n-5 : goal.overflow_mul-n-5
overflow_mul-n-5 c =
    let a = c.args in let e = shape a.n a.t (sym c.bad_shape.ensures ∙ c.if-bad_shape.false) in omega (arith, bounds a.n a.t e.tiles e.side)

pub returns-then-lists-n : goal.returns-then-lists-n
returns-then-lists-n c =
    rw c.at-then-lists-n.ensures (result_lists _ _ _ _ _ _ (sym c.bad_shape.ensures ∙ c.if-bad_shape.false) c.if-matrix-n.false c.if-lists-n.true)

pub result_length-length-requires : goal.result_length-length-requires
result_length-length-requires c =
    let a = c.args in let e = shape a.n a.t (sym c.bad_shape.ensures ∙ c.if-bad_shape.false) in (e.tiles, e.side)

pub returns-then-text-length : goal.returns-then-text-length
returns-then-text-length c =
    rw c.at-then-text-length.ensures (result_short _ _ _ _ _ _ (sym c.bad_shape.ensures ∙ c.if-bad_shape.false) c.if-matrix-n.false c.if-lists-n.false (rw c.result_length-length.ensures at c.if-text-length.true))

pub put_result-requires : goal.put_result-requires
put_result-requires c =
    let a = c.args in let e = shape a.n a.t (sym c.bad_shape.ensures ∙ c.if-bad_shape.false) in record { n_le_most_tiles = (e.tiles, e.side); t_in_bounds = rw c.result_length-length.ensures at c.if-text-length.false; t_in_bounds_2 = enough a.n a.t _ c.if-matrix-n.false; t_in_bounds_3 = omega (arith, c.if-lists-n.false) }

pub shape_of-text : goal.shape_of-text
shape_of-text c =
    omega arith

pub returns : goal.returns
returns c =
    rw c.result_length-length.ensures (result_written _ _ _ _ _ _ (sym c.bad_shape.ensures ∙ c.if-bad_shape.false) c.if-matrix-n.false c.if-lists-n.false _ (rw c.result_length-length.ensures at c.if-text-length.false) c.put_result.ensures)
