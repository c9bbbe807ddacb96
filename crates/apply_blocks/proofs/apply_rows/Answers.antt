-- `apply_rows` meets its contract: the rows below row c stand in the tile. Assumes nothing.
use mathlib.Core.Path.{◌≡◌, refl}
use mathlib.Core.Logic.{inl}
use Prim.Native.Nat.{suc, ◌+◌, ◌-◌, ◌*◌}
use native.Mathlib.Omega.{arith}
use Rattle.column_laws.proofs.Finite.{finite_part}
use Rattle.column_laws.proofs.Updates.{below_read, rows_applied}
use Rattle.apply_blocks.proofs.apply_rows.Goals as goal

pub update_rows-requires : goal.update_rows-requires
update_rows-requires c =
    let a = c.args in
    let b = c.requires.block in
    let h = c.requires.c_lt_t in
    let ends : suc a.c + (a.t - (a.c + 1)) ≡ a.t = omega (arith, h.0) in
    let split : (suc a.c + (a.t - (a.c + 1))) * a.t ≡ a.t * a.t = rw ends in record { w_le_most_side = omega (arith, b, split); fact = inl (omega arith); w_in_bounds = (omega (arith, b, split, h), inl (omega (arith, split, h))); m_value = finite_part a.a (a.t * a.t) (a.a + (a.c + 1) * a.t) ((a.t - (a.c + 1)) * a.t) a.m.now b.room (omega arith) (omega (arith, split)) h.2 }

pub returns : goal.returns
returns c =
    let a = c.args in
    let b = c.requires.block in
    let h = c.requires.c_lt_t in
    let k = a.t - (a.c + 1) in
    let ends : suc a.c + k ≡ a.t = omega (arith, h.0) in
    rows_applied a.t a.t a.c k a.a (a.a + (a.c + 1) * a.t) _ a.m.now b.room ends (omega arith) refl _ _
    (below_read a.t a.c (a.f + ((a.c + 1) * a.t + a.c)) a.f k a.m.now ends (omega arith) (omega (arith, b, h))) _ _ c.update_rows.auto.m c.update_rows.ensures
