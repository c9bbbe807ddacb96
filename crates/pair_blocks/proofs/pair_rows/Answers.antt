-- `pair_rows` meets its contract: an exchange, then the update of all lower rows. Assumes nothing.
use mathlib.Core.Path.{refl, ◌∙◌, ap}
use mathlib.Core.Logic.{inl, inr}
use mathlib.Core.List.{List}
use Prim.Native.Nat.{◌+◌, ◌*◌, ◌≤◌}
use native.Mathlib.Omega.{arith}
use lib.ListN.{length}
use lib.Ieee.{Float}
use Rattle.model.specs.Tile.{at}
use Rattle.column_laws.proofs.Exchanges.{row_apart}
use Rattle.column_laws.proofs.Pairs.{mid_long, mid_finite, mid_other, rows_paired}
use Rattle.column_laws.proofs.Updates.{column_read}
use Rattle.laws.proofs.Blocks.{row_end}
use Rattle.pair_blocks.proofs.pair_rows.Goals as goal

pub update_rows-requires : goal.update_rows-requires
update_rows-requires c =
    let a = c.args in
    let b = c.requires.two_blocks in
    let x = c.exchange_entry.ensures in
    let long = mid_long a.t a.t 0 a.c a.e a.u a.d a.m.now b.upper_room b.lower_room b.apart _ x in record { w_le_most_side = omega (arith, long, b, row_end a.c a.t a.t c.requires.c_lt_t.0); fact = row_apart a.t a.t a.u a.d a.c c.requires.c_lt_t.0 b.apart; w_in_bounds = (omega (arith, long, b, c.requires.c_lt_t), inl (omega (arith, c.requires.c_lt_t))); m_value = mid_finite a.t a.t 0 a.c a.e a.u a.d a.m.now b.upper_room b.lower_room b.apart _ x c.requires.c_lt_t.0 c.requires.m_value.0 c.requires.m_value.1 }

pub returns : goal.returns
returns c =
    let a = c.args in
    let b = c.requires.two_blocks in
    let x = c.exchange_entry.ensures in
    let long = mid_long a.t a.t 0 a.c a.e a.u a.d a.m.now b.upper_room b.lower_room b.apart _ x in
    let room : a.f + a.t * a.t ≤ length a.m.now = omega (arith, b, c.requires.c_lt_t) in
    let kept = mid_other a.t a.t 0 a.c a.e a.u a.d a.m.now b.upper_room b.lower_room b.apart _ x a.f room (inl c.requires.c_lt_t.2) (inr c.requires.c_lt_t.3) in
    rows_paired a.t a.t a.c a.e a.u a.d _ c.requires.c_lt_t.0 a.m.now b.upper_room b.lower_room b.apart refl _ _
    (λ r hr. column_read a.t a.c (a.f + a.c) a.f _ c.requires.c_lt_t.0 refl (omega (arith, long, room)) r hr ∙ ap (λ (z : List Float). at a.t z r a.c) kept)
    _ _ _ x c.update_rows.auto.m c.update_rows.ensures
