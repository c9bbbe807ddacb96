-- `pair_column` meets its contract: the two ways by whether every number computed is finite. Assumes nothing.
use mathlib.Core.Path.{◌∙◌, ap}
use Prim.Native.Nat.{◌+◌}
use native.Mathlib.Omega.{arith}
use lib.ListN.{get_or}
use lib.Ieee.{of_bits}
use Rattle.model.specs.Tile.{zeros}
use Rattle.column_laws.proofs.Ends.{pair_ends, pair_fails}
use Rattle.column_laws.proofs.Ready.{pair_ready}
use Rattle.pair_columns.proofs.pair_column.Goals as goal

pub bounds-lists-p : goal.bounds-lists-p
bounds-lists-p c =
    let r = pair_ready c.requires in omega (arith, r.column, r.list_room, c.list_start-p.ensures)

pub pair_rows-requires : goal.pair_rows-requires
pair_rows-requires c =
    let r = pair_ready c.requires in
    rw (c.tile_start-u.ensures, c.tile_start-d.ensures, c.tile_start-f.ensures, c.from-e.ensures, c.list_start-p.ensures) (
    record {
      two_blocks = record {
        rows_most = r.side_most;
        width_most = r.side_most;
        few = r.few;
        upper_room = r.upper_room;
        lower_room = r.lower_room;
        apart = r.apart;
      };
      c_lt_t = (r.column, r.entry, r.mult_below, r.mult_left);
      m_value = (r.upper_finite, r.lower_finite);
    }
    )

pub returns-then-pair_rows : goal.returns-then-pair_rows
returns-then-pair_rows c =
    let a = c.args in
    let r = pair_ready c.requires in
    let e = c.from-e.ensures ∙ ap (λ p. get_or a.lists.now (p + a.c) 0) c.list_start-p.ensures in
    pair_ends a.z.tiles a.z.side a.k a.i a.j a.c _ _ _ r.column a.matrix.now a.lists.now r.list_room e c.tile_start-u.ensures c.tile_start-d.ensures
    _ c.tile_start-f.ensures _ _ c.pair_rows.ensures _ c.if-pair_rows.true c.column_end.ensures

pub fill_part-requires-clause-part_in_bounds : goal.fill_part-requires-clause-part_in_bounds
fill_part-requires-clause-part_in_bounds c =
    omega (arith, (pair_ready c.requires).lower_room, c.tile_start-d.ensures, c.pair_rows.auto.m)

pub fill_part-requires-2-clause-part_in_bounds : goal.fill_part-requires-2-clause-part_in_bounds
fill_part-requires-2-clause-part_in_bounds c =
    omega (arith, (pair_ready c.requires).upper_room, c.tile_start-u.ensures, c.pair_rows.auto.m, c.fill_part.auto.slice)

pub returns : goal.returns
unfolding zeros of_bits
returns c =
    let a = c.args in
    let r = pair_ready c.requires in
    let u = c.tile_start-u.ensures in
    let d = c.tile_start-d.ensures in
    let e = c.from-e.ensures ∙ ap (λ p. get_or a.lists.now (p + a.c) 0) c.list_start-p.ensures in
    pair_fails a.z.tiles a.z.side a.k a.i a.j a.c _ _ _ r.column a.matrix.now a.lists.now r.list_room e u d _ c.tile_start-f.ensures _ _
    c.pair_rows.ensures _ _ (rw u r.upper_room) (rw d r.lower_room) (rw (u, d) r.apart) c.if-pair_rows.false c.fill_part.ensures c.fill_part-2.ensures
