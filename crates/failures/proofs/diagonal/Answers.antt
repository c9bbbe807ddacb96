-- Element (x,x) stands in tile (x / t, x / t), row and column x % t. Assumes nothing.
use native.Mathlib.Omega.{arith}
use Rattle.failures.proofs.Laws.{diagonal_at, diagonal_is}
use Rattle.failures.proofs.diagonal.Goals as goal

pub overflow_mul-result : goal.overflow_mul-result
overflow_mul-result c =
    omega (arith, diagonal_at _ _ c.requires.0 c.requires.2)

pub overflow_add-result : goal.overflow_add-result
overflow_add-result c =
    omega (arith, diagonal_at _ _ c.requires.0 c.requires.2)

pub overflow_mul-result-2 : goal.overflow_mul-result-2
overflow_mul-result-2 c =
    omega (arith, diagonal_at _ _ c.requires.0 c.requires.2)

pub overflow_mul-result-3 : goal.overflow_mul-result-3
overflow_mul-result-3 c =
    omega (arith, diagonal_at _ _ c.requires.0 c.requires.2)

pub overflow_mul-result-4 : goal.overflow_mul-result-4
overflow_mul-result-4 c =
    omega (arith, diagonal_at _ _ c.requires.0 c.requires.2)

pub overflow_add-result-2 : goal.overflow_add-result-2
overflow_add-result-2 c =
    omega (arith, diagonal_at _ _ c.requires.0 c.requires.2)

pub overflow_add-result-3 : goal.overflow_add-result-3
overflow_add-result-3 c =
    omega (arith, diagonal_at _ _ c.requires.0 c.requires.2)

pub offset_bounds-matrix-i : goal.offset_bounds-matrix-i
offset_bounds-matrix-i c =
    omega (arith, diagonal_at _ _ c.requires.0 c.requires.2)

pub bounds-matrix-i : goal.bounds-matrix-i
bounds-matrix-i c =
    omega (arith, diagonal_at _ _ c.requires.0 c.requires.2)

pub returns : goal.returns
returns c =
    diagonal_is _ _ _ _ (diagonal_at _ _ c.requires.0 c.requires.2)
