-- `apply_right` meets its contract: the rows below row c stand in the block. Assumes nothing.
use mathlib.Core.Path.{◌≡◌}
use mathlib.Core.Logic.{inl}
use Prim.Native.Nat.{suc, ◌+◌, ◌-◌, ◌*◌}
use native.Mathlib.Omega.{arith}
use Rattle.column_laws.proofs.Finite.{finite_part}
use Rattle.column_laws.proofs.Updates.{below_read, rows_applied}
use Rattle.apply_blocks.proofs.apply_right.Goals as goal

pub update_column-requires : goal.update_column-requires
update_column-requires c =
    let a = c.args in
    let b = c.requires.block in
    let ends : suc a.c + (a.t - (a.c + 1)) ≡ a.t = omega (arith, c.requires.c_lt_t.0) in
    let split : (suc a.c + (a.t - (a.c + 1))) * a.t ≡ a.t * a.t = rw ends in record { rows_le_most_side = omega (arith, b, c.requires.c_lt_t.0); fact = inl (omega arith); stride_le_most_side = omega (arith, c.requires.block_2, c.requires.c_lt_t.0, split); y_value = finite_part a.a (a.t * 1) (a.a + (a.c + 1)) ((a.t - (a.c + 1)) * 1) a.y.now b.room (omega arith) (omega (arith, c.requires.c_lt_t.0)) c.requires.c_lt_t.1 }

pub returns : goal.returns
returns c =
    let a = c.args in
    let b = c.requires.block in
    let k = a.t - (a.c + 1) in
    let ends : suc a.c + k ≡ a.t = omega (arith, c.requires.c_lt_t.0) in
    rows_applied a.t 1 a.c k a.a (a.a + (a.c + 1)) (a.a + a.c) a.y.now b.room ends (omega arith) (omega arith) _ _
    (below_read a.t a.c (a.f + ((a.c + 1) * a.t + a.c)) a.f k a.m.now ends (omega arith) c.requires.block_2.room) _ _ c.update_column.auto.y c.update_column.ensures
