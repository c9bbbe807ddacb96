-- `header_read::refused_shape` meets its contract, one test after the other. Assumes nothing.
use mathlib.Core.Path.{sym, ◌∙◌}
use native.Mathlib.Nat.{mul-le-mul}
use native.Mathlib.Omega.{arith}
use Rattle.laws.proofs.Refusals.{shape_range}
use Rattle.header_read.proofs.refused_shape.Goals as goal

pub overflow_mul-result : goal.overflow_mul-result
overflow_mul-result c =
    let (n, s) = shape_range _ _ (sym c.bad_shape.ensures ∙ c.if-bad_shape.false) in omega (arith, mul-le-mul n.1 s.1)
