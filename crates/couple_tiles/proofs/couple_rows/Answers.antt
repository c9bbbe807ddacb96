-- `couple_rows` meets its contract: an exchange by the entry, then row c of the upper tile eliminated from all lower rows. Assumes nothing.
use mathlib.Core.Path.{refl}
use native.Mathlib.Omega.{arith}
use Rattle.column_laws.proofs.Exchanges.{row_apart}
use Rattle.column_laws.proofs.Pairs.{mid_long, mid_finite, coupled_fine, tiles_coupled}
use Rattle.laws.proofs.Blocks.{row_end}
use Rattle.couple_tiles.proofs.couple_rows.Goals as goal

pub eliminate-requires : goal.eliminate-requires
eliminate-requires c =
    let a = c.args in
    let b = c.requires.two_blocks in
    let x = c.exchange_entry.ensures in
    let long = mid_long a.t a.t a.c a.c a.e a.u a.d a.m.now b.upper_room b.lower_room b.apart _ x in
    let end = row_end a.c a.t a.t c.requires.c_lt_t.0 in record {
      rows = record {
        rows_most = b.rows_most;
        width_most = b.rows_most;
        column = c.requires.c_lt_t.0;
        few = omega (arith, long, b.few);
        room = omega (arith, long, b.lower_room);
        top_room = omega (arith, long, b.upper_room, end);
        apart = row_apart a.t a.t a.u a.d a.c c.requires.c_lt_t.0 b.apart;
      };
      m_value = mid_finite a.t a.t a.c a.c a.e a.u a.d a.m.now b.upper_room b.lower_room b.apart _ x c.requires.c_lt_t.0 c.requires.c_lt_t.2 c.requires.c_lt_t.3;
      by_index = coupled_fine a.t a.c a.e a.u a.d _ c.requires.c_lt_t.0 a.m.now b.upper_room b.lower_room b.apart refl _ x c.requires.by_index;
    }

pub returns : goal.returns
returns c =
    let a = c.args in
    let b = c.requires.two_blocks in
    tiles_coupled a.t a.c a.e a.u a.d _ c.requires.c_lt_t.0 a.m.now b.upper_room b.lower_room b.apart refl _ c.exchange_entry.ensures _ _ c.eliminate.auto.m c.eliminate.ensures
