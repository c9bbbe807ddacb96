-- `factor_rows` meets its contract: rows c and y exchanged, then row c eliminated from the rows below. Assumes nothing.
use mathlib.Core.Path.{◌≡◌, refl}
use mathlib.Core.Logic.{inl}
use Prim.Native.Nat.{suc, ◌+◌, ◌-◌, ◌*◌}
use native.Mathlib.Omega.{arith}
use Rattle.column_laws.proofs.Exchanges.{exchange_at}
use Rattle.column_laws.proofs.Permutes.{rows_exchangeable}
use Rattle.column_laws.proofs.Pairs.{kept_long, factored_finite, factored_fine, tile_factored}
use Rattle.laws.proofs.Blocks.{row_end}
use Rattle.factor_tiles.proofs.factor_rows.Goals as goal

pub exchange-requires : goal.exchange-requires
exchange-requires c =
    let a = c.args in
    let h = c.requires.c_lt_t in
    (omega (arith, c.requires.block, row_end a.c a.t a.t h.0), omega (arith, c.requires.block, row_end a.y a.t a.t h.1), rows_exchangeable a.t a.a a.c a.y)

pub eliminate-requires : goal.eliminate-requires
eliminate-requires c =
    let a = c.args in
    let b = c.requires.block in
    let k = a.t - (a.c + 1) in
    let ends : suc a.c + k ≡ a.t = omega (arith, c.requires.c_lt_t.0) in
    let split : (suc a.c + k) * a.t ≡ a.t * a.t = rw ends in
    let x = exchange_at a.t a.a a.c a.y a.m.now _ c.requires.c_lt_t.0 c.requires.c_lt_t.1 b.room c.exchange.ensures in
    let long = kept_long a.t a.c k a.y a.a (a.a + (a.c + 1) * a.t) (a.a + a.c * a.t) ends a.m.now b.room (omega arith) refl _ x in record {
      rows = record {
        rows_most = omega (arith, b.rows_most);
        width_most = b.rows_most;
        column = c.requires.c_lt_t.0;
        few = omega (arith, long, b.few);
        room = omega (arith, long, b.room, split);
        top_room = omega (arith, long, b.room, split);
        apart = inl (omega arith);
      };
      m_value = factored_finite a.t a.c k a.y a.a (a.a + (a.c + 1) * a.t) (a.a + a.c * a.t) ends a.m.now b.room (omega arith) refl _ x c.requires.c_lt_t.1 c.requires.c_lt_t.2;
      by_index = factored_fine a.t a.c k a.y a.a (a.a + (a.c + 1) * a.t) (a.a + a.c * a.t) ends a.m.now b.room (omega arith) refl _ x c.requires.by_index;
    }

pub returns : goal.returns
returns c =
    let a = c.args in
    let b = c.requires.block in
    let x = exchange_at a.t a.a a.c a.y a.m.now _ c.requires.c_lt_t.0 c.requires.c_lt_t.1 b.room c.exchange.ensures in
    tile_factored a.t a.c (a.t - (a.c + 1)) a.y a.a (a.a + (a.c + 1) * a.t) (a.a + a.c * a.t) (omega (arith, c.requires.c_lt_t.0)) a.m.now b.room (omega arith) refl _ x _ _ c.eliminate.auto.m c.eliminate.ensures
