-- `pair_right` meets its contract: an exchange, then the update of all lower rows. Assumes nothing.
use native.Mathlib.Nat.{mul-one}
use native.Mathlib.Omega.{arith}
use mathlib.Core.Path.{refl}
use Prim.Native.Nat.{◌+◌}
use Rattle.column_laws.proofs.Exchanges.{row_apart}
use Rattle.column_laws.proofs.Pairs.{mid_long, mid_finite, rows_paired}
use Rattle.column_laws.proofs.Updates.{column_read}
use Rattle.pair_blocks.proofs.pair_right.Goals as goal

pub update_column-requires : goal.update_column-requires
update_column-requires c =
    let a = c.args in
    let b = c.requires.two_blocks in
    let x = c.exchange_entry.ensures in
    let long = mid_long a.t 1 0 a.c a.e a.u a.d a.y.now b.upper_room b.lower_room b.apart _ x in record { rows_le_most_side = omega (arith, long, b, c.requires.c_lt_t.0); fact = rw (mul-one a.c) at (row_apart a.t 1 a.u a.d a.c c.requires.c_lt_t.0 b.apart); stride_le_most_side = omega (arith, c.requires.block, c.requires.c_lt_t.0); y_value = mid_finite a.t 1 0 a.c a.e a.u a.d a.y.now b.upper_room b.lower_room b.apart _ x c.requires.c_lt_t.0 c.requires.y_value.0 c.requires.y_value.1 }

pub returns : goal.returns
returns c =
    let a = c.args in
    let b = c.requires.two_blocks in
    rows_paired a.t 1 a.c a.e a.u a.d (a.u + a.c) c.requires.c_lt_t.0 a.y.now b.upper_room b.lower_room b.apart (omega arith) _ _
    (column_read a.t a.c (a.f + a.c) a.f a.m.now c.requires.c_lt_t.0 refl c.requires.block.room) _ _ _ c.exchange_entry.ensures c.update_column.auto.y c.update_column.ensures
