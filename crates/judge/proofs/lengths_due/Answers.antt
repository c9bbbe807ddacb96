-- `judge::lengths_due` meets its contract. Assumes nothing.
use native.Mathlib.Nat.{mul-le-mul}
use native.Mathlib.Omega.{arith}
use Rattle.system_checked.proofs.Headers.{facts, shape_read}
use Rattle.judge.proofs.lengths_due.Goals as goal

pub overflow_mul-n : goal.overflow_mul-n
overflow_mul-n c =
    let f = facts (shape_read _ _ _ _ _ c.check_header.ensures c.in-Ok.is) in let n = mul-le-mul f.tiles.1 f.side.1 in omega arith

pub overflow_mul-result : goal.overflow_mul-result
overflow_mul-result c =
    let f = facts (shape_read _ _ _ _ _ c.check_header.ensures c.in-Ok.is) in let n = mul-le-mul f.tiles.1 f.side.1 in omega (arith, mul-le-mul n n)

pub overflow_mul-result-in-Ok : goal.overflow_mul-result-in-Ok
overflow_mul-result-in-Ok c =
    let f = facts (shape_read _ _ _ _ _ c.check_header.ensures c.in-Ok.is) in let n = mul-le-mul f.tiles.1 f.side.1 in omega (arith, mul-le-mul f.tiles.1 n)

pub returns-in-Ok : goal.returns-in-Ok
returns-in-Ok c =
    let f = facts (shape_read _ _ _ _ _ c.check_header.ensures c.in-Ok.is) in let n = mul-le-mul f.tiles.1 f.side.1 in (mul-le-mul n n, mul-le-mul f.tiles.1 n)
